pub mod Rows
pub mod Trace
pub mod Writing
pub mod Streaming
pub mod Differing
