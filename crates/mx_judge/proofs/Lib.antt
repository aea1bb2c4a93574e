mod ItemLemmas
mod LineLemmas
pub mod JudgeLemmas
