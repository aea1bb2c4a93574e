mod ViewLemmas
pub mod HistoryLemmas
pub mod SessionLemmas
mod SessionLineLemmas
mod TypedLemmas
mod LinePlanLemmas
mod FileLemmas
pub mod StopLemmas
pub mod PlaysLemmas
mod ReportLemmas
pub mod PlayedLemmas
mod CommandLemmas
pub mod ExpectationLemmas
pub mod StoreLemmas
