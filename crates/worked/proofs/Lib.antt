pub mod Tests
pub mod Decodings
pub mod Worked
