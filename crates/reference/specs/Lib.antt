pub mod References
pub mod Masters
pub mod MasterWeighs
