-- Node: the state of a node. RequesterStep and ArbiterStep: the rows of the step table by role.
-- Step: the step table. Knows: what a node shows of its state. Good: the invariant. laws: proofs
-- that the table keeps the invariant, and the laws that follow.
pub mod Node
pub mod RequesterStep
pub mod ArbiterStep
pub mod Step
pub mod Knows
pub mod Good
pub mod laws
