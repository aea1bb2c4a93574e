pub mod EscapeLemmas
mod NumberLemmas
mod SideLemmas
pub mod WithinLemmas
