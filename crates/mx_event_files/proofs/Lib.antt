pub mod PlayedLemmas
pub mod ItemLemmas
pub mod ReadLemmas
pub mod StopLemmas
pub mod ScriptLemmas
