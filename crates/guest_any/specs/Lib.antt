pub mod Any
pub mod ImageTells
pub mod Openings
