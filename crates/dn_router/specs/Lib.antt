pub mod Replays
pub mod Orders
pub mod Routers
pub mod Sound
pub mod Answers
