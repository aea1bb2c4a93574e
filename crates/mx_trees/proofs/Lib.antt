pub mod Paths
pub mod Counts
pub mod Listed
pub mod Rows
pub mod Grown
pub mod Ways
pub mod Faults
pub mod Only
