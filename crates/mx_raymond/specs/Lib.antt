-- Queue and Node: the state of a node. Step: the step table. Knows: what a node shows of its state.
-- Good: the invariant. laws: proofs that the table keeps the invariant, and the laws that follow.
pub mod Queue
pub mod Node
pub mod Step
pub mod Knows
pub mod Good
pub mod laws
