pub mod Stack
pub mod Steps
pub mod Places
