-- Walk: what a step of a walk does, by the words of a generator. Runs: the next event of a run, and
-- the cluster after a number of steps. Reads: that no read of a walk is refused for a gap. Explored:
-- what `explore` prints. Drawn: what `draw` prints.
pub mod Walk
pub mod Runs
pub mod Reads
pub mod Explored
pub mod Drawn
