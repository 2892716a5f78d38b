pub mod Exponential
pub mod Rounded
pub mod Exponentials
pub mod Thermals
pub mod Openings
pub mod Elastics
