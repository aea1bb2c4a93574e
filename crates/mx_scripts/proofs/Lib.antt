pub mod FateLemmas
pub mod UnderWayLemmas
pub mod ListedLemmas
pub mod OldestLemmas
pub mod LineLemmas
mod PartitionLemmas
pub mod ToldLemmas
pub mod StateLemmas
mod StandstillLemmas
