pub mod Division
pub mod Total
pub mod Algebra
