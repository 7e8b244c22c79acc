pub mod Places
pub mod Counts
pub mod Todos
pub mod Answers
pub mod Queues
