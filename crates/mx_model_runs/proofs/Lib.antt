-- Running: a run that was computed. Shapes: the shapes are valid. Traces: the three runs. Stages: the run
-- with events of every kind, part by part. Merged: the join of its journals. Refused: what the
-- definitions refuse.
pub mod Running
pub mod Shapes
pub mod Traces
pub mod Stages
pub mod Merged
pub mod Refused
