pub mod Sinks
pub mod Laws
