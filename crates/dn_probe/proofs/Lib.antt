pub mod Ports
pub mod Words
pub mod Shows
pub mod Memories
pub mod Hops
