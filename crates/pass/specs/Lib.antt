pub mod Readings
pub mod Denials
pub mod Ranges
pub mod Gates
pub mod Meters
pub mod Kinds
pub mod Values
