pub mod Names
pub mod PairWords
pub mod Plain
pub mod Words
