pub mod Holds
pub mod Nexts
pub mod Sides
