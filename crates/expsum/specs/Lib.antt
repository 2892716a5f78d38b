pub mod Series
pub mod Terms
