pub mod Feeding
pub mod Stamps
pub mod Live
pub mod Following
pub mod Listening
