-- Laws: the promises on phases, and all laws together.
pub mod Laws
