-- Held: what registers hold, by members alone. Taking: one more record, and lists of them. Applying:
-- journals without gaps. Based: journals with a base, and that settling keeps their
-- registers. Covered: journals that cover the same show the same. Writing serves this crate's own proofs.
pub mod Writing
pub mod Held
pub mod Taking
pub mod Applying
pub mod Based
pub mod Covered
