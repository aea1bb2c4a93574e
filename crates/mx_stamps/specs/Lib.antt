-- Stamp: the order of stamps. Numbers: the last number that a node can draw. Links: the index of a
-- link. Lists: definitions on lists that all crates use.
pub mod Stamp
pub mod Numbers
pub mod Links
pub mod Lists
