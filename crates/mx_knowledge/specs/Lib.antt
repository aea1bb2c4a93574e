pub mod Facts
pub mod Tables
