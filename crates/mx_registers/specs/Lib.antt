-- Registers: the contents of registers after records. Based: their contents in a journal with a
-- base.
pub mod Registers
pub mod Based
