pub mod Happenings
pub mod Objects
pub mod ShownScripts
pub mod Replayed
