pub mod Near
pub mod Bounds
pub mod Sums
