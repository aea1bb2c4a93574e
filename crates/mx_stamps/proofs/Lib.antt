-- Choices: tests, and values chosen by a test. Lists: lists by their places and members. Nodes: the
-- nodes of a cluster, one by one. Stamps: the order of stamps.
pub mod Choices
pub mod Lists
pub mod Nodes
pub mod Stamps
