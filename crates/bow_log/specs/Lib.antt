pub mod Spelling
pub mod Generations
pub mod Rules
pub mod Faults
pub mod Spelled
pub mod Laws
