-- World: the states of the nodes, the letters sent, and the steps of nodes. Core: a step table, and
-- what it promises about phases. Laws: the start, step, exclusion and numbering laws. Phases: tests
-- of a phase. Calls: what calls do in each phase. Bounds: every number is a u64 value, and every
-- node named is one of the world. Raised: numbers that only rise. Tests: a test of all nodes below
-- n. Rows: the rows of an algorithm, the step table that they make, and what an algorithm proves
-- about them.
pub mod World
pub mod Core
pub mod Laws
pub mod Phases
pub mod Calls
pub mod Bounds
pub mod Raised
pub mod Tests
pub mod Rows
