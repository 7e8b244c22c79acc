pub mod Streams
pub mod LineReading
pub mod Beats
pub mod Memory
pub mod Standard
