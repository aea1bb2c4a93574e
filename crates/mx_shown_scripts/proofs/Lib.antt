mod HappeningLemmas
mod ResultLemmas
mod ShownLemmas
