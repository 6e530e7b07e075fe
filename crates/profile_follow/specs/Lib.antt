pub mod Walk
pub mod Following
