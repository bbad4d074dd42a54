pub mod Steps
pub mod Lists
pub mod Passed
pub mod Reach
