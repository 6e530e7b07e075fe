pub mod Rates
pub mod Anew
