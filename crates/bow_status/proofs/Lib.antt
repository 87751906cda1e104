pub mod Turning
pub mod LawsHold
