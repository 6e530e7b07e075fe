pub mod Watching
pub mod Adding
pub mod Lines
pub mod Areas
pub mod Watch
pub mod Pass
