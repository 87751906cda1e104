pub mod ActsInOrder
