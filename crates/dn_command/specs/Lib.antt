pub mod Breaks
pub mod Commands
pub mod Spelling
