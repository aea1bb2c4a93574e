pub mod LineLemmas
pub mod WordLemmas
pub mod OutputLemmas
pub mod RefusedLemmas
pub mod ClosedLemmas
pub mod ReadLemmas
pub mod FrameLemmas
