pub mod Arguments
pub mod Events
pub mod Words
