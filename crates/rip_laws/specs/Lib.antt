pub mod Reached
pub mod Timely
pub mod Told
pub mod GivenUp
pub mod Poisoned
pub mod UpPorts
