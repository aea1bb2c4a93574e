-- Join: the join of two maps and of two journals, as a least upper bound. Missing: gaps, and the
-- records in ranges.
pub mod Join
pub mod Missing
