pub mod CountLemmas
pub mod MeasureLemmas
pub mod PrintedLemmas
pub mod RowLemmas
