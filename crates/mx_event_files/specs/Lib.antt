pub mod Played
pub mod Scripts
pub mod ScriptFiles
pub mod Printed
