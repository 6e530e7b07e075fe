pub mod Walking
pub mod After
pub mod Steps
pub mod Ending
pub mod Turn
