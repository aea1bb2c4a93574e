-- Runs: the report of a run of events, and the lines of a replay. Sinks: what a sink prints of a run.
-- Jobs: the report of the events in a text. Commands: what `check` and `replay` print without options
-- of a view. Standstill: whether a run stands still. Shown: what a view shows of a run. Viewed: what
-- `replay` prints.
pub mod Runs
pub mod Sinks
pub mod Jobs
pub mod Commands
pub mod Standstill
pub mod Shown
pub mod Viewed
