pub mod Points
pub mod Levels
pub mod Rows
pub mod Deviations
pub mod Outcomes
pub mod Worked
