pub mod Reports
pub mod Readings
pub mod Writings
pub mod Decodings
