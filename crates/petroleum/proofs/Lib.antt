pub mod Expansions
