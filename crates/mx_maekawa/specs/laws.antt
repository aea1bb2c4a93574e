-- Places and Tests: lemmas. Changes and Frame: what any step may change, and what it does not.
-- Parts, LockParts, GrantParts, SectionParts and Cascades: the parts of a step. RequesterKeeps,
-- ArbiterKeeps and Keeps: each row keeps a world safe. RequesterBounds, ArbiterBounds and Bounds:
-- each number is a u64 value, and each name that of a node. Safety: at most one node is inside, and
-- sections are numbered in order. Laws: the promises on phases, and all laws together.
pub mod Places
pub mod Tests
pub mod Changes
pub mod Frame
pub mod Safety
pub mod Parts
pub mod LockParts
pub mod GrantParts
pub mod SectionParts
pub mod Cascades
pub mod RequesterKeeps
pub mod ArbiterKeeps
pub mod Keeps
pub mod RequesterBounds
pub mod ArbiterBounds
pub mod Bounds
pub mod Laws
