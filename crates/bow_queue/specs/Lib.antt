pub mod Extents
pub mod Insides
pub mod Requests
