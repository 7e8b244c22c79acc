pub mod Allowed
pub mod Outcomes
pub mod Choices
pub mod Driving
pub mod Counting
pub mod Endings
