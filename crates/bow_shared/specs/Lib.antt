pub mod Desks
pub mod Ends
pub mod Hands
pub mod Serving
pub mod Works
