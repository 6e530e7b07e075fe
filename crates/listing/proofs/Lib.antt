pub mod Read
pub mod Room
pub mod Onward
pub mod Front
