pub mod ShownLemmas
pub mod StationLemmas
pub mod WorkerLemmas
pub mod SectionLemmas
pub mod ProgressLemmas
pub mod ErrorLemmas
pub mod RequestLemmas
