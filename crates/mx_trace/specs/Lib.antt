-- Sections: marks (what events do in sections), and the sections that marks make. Serial: when
-- sections follow one another. Trace: properties of a trace. Causes: the words for the cause of a
-- refusal.
pub mod Sections
pub mod Serial
pub mod Trace
pub mod Causes
