pub mod Lines
pub mod Spelled
pub mod Asking
pub mod Both
