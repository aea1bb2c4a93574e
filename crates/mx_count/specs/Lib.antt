-- Rows: the rows of counts, and their values. Lines, Objects: the texts of rows. Kinds: which parcels
-- and refusals are counted together. Waits: how long nodes waited. NodeCounts: the counts of each
-- node. Measures: response times and synchronization delays. Counted: the rows of a run of events.
-- Printed: what is printed of events that a text lists, or that were drawn.
pub mod Rows
pub mod Lines
pub mod Objects
pub mod Kinds
pub mod Waits
pub mod NodeCounts
pub mod Measures
pub mod Counted
pub mod Printed
