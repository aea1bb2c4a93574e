-- Tests: what the tests of the step table mean. Frame: what a step does not change. PrivilegeStays
-- and PrivilegeMoves: steps that keep the privilege in its place, and steps that move it or use it.
-- Keeps: each row keeps a world safe. ServingBounds and Bounds: each number is a u64 value, and
-- each name that of a node. Safety: at most one node is inside, and sections are numbered in order.
-- Laws: the promises on phases, and all laws together.
pub mod Tests
pub mod Frame
pub mod PrivilegeStays
pub mod PrivilegeMoves
pub mod Keeps
pub mod ServingBounds
pub mod Bounds
pub mod Safety
pub mod Laws
