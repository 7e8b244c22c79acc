pub mod Watchers
pub mod Ahead
pub mod Goings
pub mod Written
pub mod Answered
pub mod Replied
pub mod Heard
