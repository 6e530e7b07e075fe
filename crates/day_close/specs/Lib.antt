pub mod Laying
pub mod Closed
