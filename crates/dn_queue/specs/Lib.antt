pub mod Places
pub mod Todos
pub mod Comings
