-- Joins: the join of agreeing journals is their least upper bound. GapLists: the list of gaps has
-- each gap and nothing else. Differences: how the least difference is found. Answered: answers are
-- records of the journal. Skipping: what a search may leave out. Unsettled: journals that have settled
-- nothing.
pub mod Joins
pub mod GapLists
pub mod Differences
pub mod Answered
pub mod Skipping
pub mod Unsettled
