-- Node: the state of a node. Step: the step table. Good: the invariant. laws: proofs that the table
-- keeps the invariant, and the laws that follow.
pub mod Node
pub mod Step
pub mod Good
pub mod laws
