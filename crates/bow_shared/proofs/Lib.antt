pub mod Beginning
pub mod Ends
pub mod InHands
pub mod Steps
