pub mod Lists
pub mod Course
pub mod Pieces
pub mod Exact
pub mod Recorded
pub mod Headings
