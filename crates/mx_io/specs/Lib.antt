-- Told: the contents of a source of named bytes, and the names that were read. Stored: what a store
-- was given. Outputs: what outputs hold, and whether they refuse. Given: the exit status if the arguments could not be read.
pub mod Told
pub mod Stored
pub mod Outputs
pub mod Given
