pub mod Reached
pub mod Left
pub mod Current
pub mod Lists
pub mod UpPorts
pub mod Heard
