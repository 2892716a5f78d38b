pub mod Ranges
pub mod Gaps
pub mod Rules
pub mod Span
pub mod Reaches
pub mod Outcomes
pub mod Judgements
pub mod Worked
