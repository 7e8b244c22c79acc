pub mod Feed
pub mod Holds
pub mod Joined
pub mod Runs
pub mod Work
