pub mod Puts
pub mod Rows
pub mod Numbers
pub mod Spelled
pub mod Clean
pub mod InBlocks
