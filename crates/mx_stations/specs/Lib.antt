-- Entries: what a seat knows about one node. Links: the slots between the nodes. Running: what the
-- seats know about the nodes, and the rule that their table keeps. Slides: the steps by which a
-- parcel crosses a slot. Posts: the station as callers see it. Opened: the stations of a new table.
-- Turns: the acts and moves of a turn. Together: what the stations of one table show together.
-- Gathered: the result of gathering all of them. Works: the acts and moves of a worker's station.
pub mod Entries
pub mod Links
pub mod Running
pub mod Slides
pub mod Posts
pub mod Opened
pub mod Turns
pub mod Together
pub mod Gathered
pub mod Works
