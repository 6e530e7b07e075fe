pub mod Answers
pub mod Codes
pub mod Records
pub mod Fields
pub mod Kinds
pub mod Heats
