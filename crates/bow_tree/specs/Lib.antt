pub mod Rows
pub mod Parts
pub mod Nodes
pub mod Trees
pub mod Rooms
pub mod Visits
pub mod Fits
pub mod Tables
