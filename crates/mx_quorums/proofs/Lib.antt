-- RowLemmas: rows of marks. ListLemmas: members of lists. FaultLemmas: which fault is the first.
pub mod RowLemmas
pub mod ListLemmas
pub mod FaultLemmas
pub mod ShapeLemmas
