-- ParcelLog: the parcels that were sent. Outcome: the outcome in a trace, by a member's result.
-- Step: one event of a cluster. Merged: journals of members, merged. Kept: what holds for every
-- cluster.
pub mod ParcelLog
pub mod Outcome
pub mod Step
pub mod Merged
pub mod Kept
