pub mod Powers
pub mod Locator
pub mod Quotient
pub mod Solving
pub mod Located
