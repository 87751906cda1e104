pub mod Beginning
pub mod Committing
pub mod Leading
pub mod Playing
pub mod Reading
