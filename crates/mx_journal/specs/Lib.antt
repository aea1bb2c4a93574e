-- Records: journals as maps. Gapless: journals without gaps. Agreement: records of the same number.
-- Drafted: drafts, and the receipts and records that are made from them. Bases: registers that
-- replace records. Written: a register after the writes of a section. Settled: journals with a
-- base. Runs: the records of a journal as runs. Searches: the results of searches.
pub mod Records
pub mod Gapless
pub mod Agreement
pub mod Drafted
pub mod Bases
pub mod Written
pub mod Settled
pub mod Runs
pub mod Searches
