-- Choices: comparisons. Maps: the laws of journals. Below: records below a number. Going: records above
-- a number, one after another. Bases: the cells of bases. Settled: journals with a base. Beyond: lists above a number. The others serve this crate's own proofs: Flat, PutRuns, Found,
-- Appending, Joining, Skipped and Seams are about runs, Written about the writes of one section.
pub mod Choices
pub mod Alike
pub mod Maps
pub mod Below
pub mod Going
pub mod Flat
pub mod PutRuns
pub mod Found
pub mod Appending
pub mod Joining
pub mod Seeking
pub mod Disputes
pub mod Answering
pub mod Seams
pub mod Beyond
pub mod Skipped
pub mod Written
pub mod Bases
pub mod Settled
