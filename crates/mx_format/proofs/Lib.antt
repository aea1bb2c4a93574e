pub mod Places
pub mod NodeLemmas
pub mod PlanLemmas
pub mod FactLemmas
pub mod FileLemmas
