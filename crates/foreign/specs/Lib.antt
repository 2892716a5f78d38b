pub mod Sealed
pub mod Tanks
pub mod ShownWeighs
