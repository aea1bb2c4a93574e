-- Verdict: sound traces, and where a trace is first broken. VerdictLines: the texts of a verdict.
-- Ledger: what the judge remembers, and what it finds at a mark. Drawn: events drawn from the words
-- of a generator. Place: which parcel a drawn delivery delivers. Weather: the fates of parcels.
pub mod Verdict
pub mod VerdictLines
pub mod Ledger
pub mod Drawn
pub mod Place
pub mod Weather
