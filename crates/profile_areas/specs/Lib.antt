pub mod Watching
pub mod Passing
