-- Lines: texts of lists. Members: members of objects of JSON. Parts: what letters say. EventTexts,
-- EventJson, EventArrays, Words, LetterTexts, ParcelTexts, NodeTexts, FactTexts: the lines of a replay, also as
-- JSON. StuckTexts: the line of a run that stands still. PlanTexts: the lines of `check`, and the
-- line of `explore`. AskTexts: whom nodes ask.
pub mod Lines
pub mod EventTexts
pub mod Words
pub mod Members
pub mod EventJson
pub mod EventArrays
pub mod Files
pub mod LetterTexts
pub mod Parts
pub mod ParcelTexts
pub mod FactTexts
pub mod NodeTexts
pub mod StuckTexts
pub mod PlanTexts
pub mod AskTexts
