pub mod Outcome
pub mod Late
