pub mod Kinds
pub mod Picks
pub mod Runs
pub mod Laws
