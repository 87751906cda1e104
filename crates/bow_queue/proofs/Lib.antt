pub mod RequestLemmas
