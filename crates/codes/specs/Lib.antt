pub mod Faults
pub mod Words
pub mod Checks
pub mod Meaning
pub mod Lists
