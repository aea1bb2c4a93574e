-- Explained: what `explain` prints, and how it ends. Reports: the lines of an explanation.
pub mod Explained
pub mod Reports
