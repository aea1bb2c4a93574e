pub mod Lists
pub mod EachLemmas
pub mod TextLemmas
pub mod NameLemmas
pub mod PlanLemmas
pub mod EventLemmas
pub mod WithinLemmas
