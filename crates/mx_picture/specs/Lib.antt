-- Crossings: which places of texts are worse. Drawn: the printed picture. Fates: what becomes of a
-- parcel. LettersOnly: what `--letters` draws. Marks: which events are shown, and which one of a
-- trace is marked. Pictures: what `picture` prints. TracePictures: the same of a trace.
pub mod Crossings
pub mod Drawn
pub mod Fates
pub mod LettersOnly
pub mod Marks
pub mod Pictures
pub mod TracePictures
