mod Named
pub mod WithinLemmas
