-- Stations: the stations of a plan. Workers: the orders of workers, and what they return. Progress:
-- the printed lines of progress. Together: the receipts and the journal of all stations. Shown:
-- what a live run prints. LiveErrors: why a live run ends without a journal. Lives: what the
-- command `live` does.
pub mod Stations
pub mod Workers
pub mod Progress
pub mod Together
pub mod Shown
pub mod LiveErrors
pub mod Lives
