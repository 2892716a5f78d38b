pub mod Greaters
pub mod Gaps
pub mod Systematics
pub mod Edges
pub mod Errors
pub mod Together
