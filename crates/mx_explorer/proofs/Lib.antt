-- Ledgers: what a ledger tells after a mark. Marks: what a mark that breaks nothing leaves of a history. Faults: what
-- a mark breaks. Judged: the verdict, item by item. DrawnEvents: drawn events name what is there.
pub mod Ledgers
pub mod Marks
pub mod Faults
pub mod Judged
pub mod DrawnEvents
