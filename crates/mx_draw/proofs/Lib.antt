pub mod ParcelLemmas
pub mod StepLemmas
pub mod RunLemmas
pub mod ReadLemmas
pub mod DrawnLemmas
