pub mod Masks
pub mod Plain
