-- Names: the names that a line may use. Words: the words of a line. Numbers: the numbers of a line.
-- Refusals: wrong words. Verbs: the first words of a line. Sides: the sides of a partition. Orders:
-- what the words of a line ask for, apart from how often. Lines: whole lines of a script. Commands:
-- lines of a session. Within: which nodes and registers lines name. Texts: the texts of faults.
-- Escapes: how a text is shown without control characters.
pub mod Names
pub mod Words
pub mod Numbers
pub mod Refusals
pub mod Verbs
pub mod Sides
pub mod Orders
pub mod Lines
pub mod Commands
pub mod Within
pub mod Texts
pub mod Escapes
