pub mod Operations
pub mod Checks
pub mod Polynomials
pub mod Laws
pub mod Equations
pub mod Division
