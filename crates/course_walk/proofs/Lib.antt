pub mod Onward
pub mod PieceStep
pub mod Courses
pub mod Left
pub mod Areas
pub mod Own
pub mod Rest
