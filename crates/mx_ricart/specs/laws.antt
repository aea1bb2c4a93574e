-- Tests: what the tests of the step table mean. Frame: what a step does not change. Rows: each row
-- keeps a world safe. Bounds: each number is a u64 value, and each name that of a node. Safety: at
-- most one node is inside, and sections are numbered in order. Laws: the promises on phases, and
-- all laws together.
pub mod Tests
pub mod Frame
pub mod Rows
pub mod Bounds
pub mod Safety
pub mod Laws
