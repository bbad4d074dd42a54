pub mod Records
pub mod Books
pub mod Rows
pub mod Unique
pub mod Keeping
pub mod Promised
pub mod Driven
pub mod Places
