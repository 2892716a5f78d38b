pub mod Vessels
pub mod Walls
pub mod Provers
pub mod Worked
pub mod Volumes
pub mod Factors
