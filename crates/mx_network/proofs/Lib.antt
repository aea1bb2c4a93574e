-- ParcelLogLists: where parcels are kept. Numbered: those that are left. Marks: what items tell.
-- EventParts: the part of an event. Happening: an event by whether its node is there. Seen: what is
-- known of the fields. Finding: what a look at a place finds. Refusals: which events can't happen.
-- Refused: events that their nodes refuse. KeptSound: what is kept is sound. Keeps: each event
-- keeps what a cluster keeps. Headline: what the promise says of a cluster. Merging: merging its
-- journals. Shown: what is accepted and refused.
pub mod ParcelLogLists
pub mod Numbered
pub mod Marks
pub mod EventParts
pub mod Happening
pub mod Seen
pub mod Finding
pub mod Refusals
pub mod Refused
pub mod KeptSound
pub mod Keeps
pub mod Headline
pub mod Merging
pub mod Shown
