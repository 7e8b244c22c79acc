pub mod Lists
pub mod Hearing
pub mod Accepting
