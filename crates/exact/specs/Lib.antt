pub mod Fractions
pub mod Figures
pub mod Pairs
pub mod Ends
