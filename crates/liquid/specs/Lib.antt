pub mod Questions
pub mod Liquids
pub mod Linear
pub mod Asking
pub mod Linears
pub mod Readings
