pub mod Choice
pub mod Lists
pub mod Level
pub mod Numbers
pub mod Bounds
pub mod Few
