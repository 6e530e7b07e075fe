pub mod Day
pub mod Step
pub mod ByKind
