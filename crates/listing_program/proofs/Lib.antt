pub mod Records
pub mod Enough
pub mod Laws
