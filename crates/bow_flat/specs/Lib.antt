pub mod Flat
pub mod Valid
pub mod Laws
