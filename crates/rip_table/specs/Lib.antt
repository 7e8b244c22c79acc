pub mod Validation
pub mod Held
pub mod Routes
pub mod Response
pub mod Own
pub mod Timers
pub mod Updates
pub mod Sound
