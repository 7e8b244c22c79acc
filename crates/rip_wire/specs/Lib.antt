pub mod Constants
pub mod Entries
pub mod Messages
pub mod Reading
