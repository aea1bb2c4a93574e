-- Family: the family of arbiter sets that a `Quorums` holds. Rules: the rules of meeting sets, and
-- the first that is broken. Lists: sets given as lists of members. Shapes: the families of grids
-- and of planes. Rows: sets as rows of marks.
pub mod Family
pub mod Rules
pub mod Lists
pub mod Shapes
pub mod Rows
