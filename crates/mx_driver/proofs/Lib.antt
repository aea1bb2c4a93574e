pub mod RunLemmas
pub mod SinkLemmas
pub mod ReplayLemmas
pub mod ShownLemmas
pub mod ViewedLemmas
pub mod StandstillLemmas
