pub mod Kept
pub mod Device
pub mod Phases
pub mod PhaseActs
pub mod Proved
pub mod Joined
