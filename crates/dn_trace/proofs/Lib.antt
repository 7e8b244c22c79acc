pub mod Fronts
pub mod ToCome
pub mod Streams
pub mod Whole
