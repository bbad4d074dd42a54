pub mod Entries
pub mod Kinds
pub mod Answers
pub mod Rows
pub mod Decodings
pub mod Sums
