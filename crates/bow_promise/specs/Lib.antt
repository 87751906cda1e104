pub mod Cutting
pub mod Flushing
pub mod Played
pub mod Promises
pub mod Recoveries
pub mod Recovering
pub mod Space
