-- Member: a member's state. Steps: the step of each call. Acts: the step of each act. Faults: the
-- fault of a delivery, by the fault of the journal. Told: the mark of an act. Journals: when bases,
-- journals and parcels are of given sections. World: whole worlds, and what holds in each of them.
-- Receipts: the receipts of closed sections. Running: nodes with their own receipts.
pub mod Member
pub mod Steps
pub mod Acts
pub mod Faults
pub mod Told
pub mod Journals
pub mod World
pub mod Receipts
pub mod Running
