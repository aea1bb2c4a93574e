-- Terms: what a job promises. Laws: laws of the registers. Closures: jobs that are closures. Sections: the sections of a job.
-- Serial: one serial order of sections. Rounds: the rounds of a worker. Faults: which fault of a run
-- is reported. Groups: works that have begun. Posted: the workers of a run. Runs: runs of jobs in
-- threads.
pub mod Terms
pub mod Laws
pub mod Closures
pub mod Sections
pub mod Serial
pub mod Rounds
pub mod Faults
pub mod Groups
pub mod Posted
pub mod Runs
