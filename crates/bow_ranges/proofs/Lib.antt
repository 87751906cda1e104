pub mod RunLists
pub mod RunEdits
pub mod RunReads
pub mod RunPicks
pub mod KindLists
pub mod PickLaws
