-- Worlds: letters of steps, and steps one after the other. Frame: what a step of one node leaves as
-- it was. Each: worlds of which each node and letter is as it should be. Phases: phases apart. Calls: the promises of calls by phase. Entries: the greatest
-- number reached. Sent: letters in ascending order of addressee. Bounds: the layer of u64 values. Rows: the
-- promises and the laws, from what an algorithm proves of its own rows.
pub mod Worlds
pub mod Frame
pub mod Each
pub mod Phases
pub mod Calls
pub mod Entries
pub mod Sent
pub mod Bounds
pub mod Tests
pub mod Rows
