-- Table: the commands and their arguments. Words: how `clap` reads words. Requests: what the words of
-- a command line ask for. FaultLines: the lines of faults. Reports: what the two outputs get for
-- help, for wrong words, for a fault, and if memory ran out. Printing: what a command prints, and how
-- it ends. Reading: what is read from a source. Asked: which names are read. Frames: what the frame
-- makes of a command.
pub mod Table
pub mod Words
pub mod Requests
pub mod FaultLines
pub mod Reports
pub mod Printing
pub mod Reading
pub mod Asked
pub mod Frames
