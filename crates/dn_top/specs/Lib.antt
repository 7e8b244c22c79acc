pub mod Words
pub mod Lines
pub mod Promises
pub mod Completeness
pub mod Drives
pub mod Commands
pub mod LiveHeads
pub mod LiveRuns
