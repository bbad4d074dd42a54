pub mod Lone
pub mod Words
pub mod Spaced
pub mod Understood
