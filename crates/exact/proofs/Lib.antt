pub mod Order
pub mod Worth
pub mod Arithmetic
pub mod Quotients
pub mod Figures
pub mod Pairs
