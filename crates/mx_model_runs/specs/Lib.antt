-- Runs: a run of a cluster that starts idle, and one trace of each algorithm. Journals: a trace
-- with events of every kind, and its journals, merged. Definitions: what the definitions exclude.
pub mod Runs
pub mod Journals
pub mod Definitions
