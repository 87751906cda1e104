pub mod Cuts
pub mod Device
pub mod Guard
pub mod Standing
pub mod Phases
pub mod Laws
