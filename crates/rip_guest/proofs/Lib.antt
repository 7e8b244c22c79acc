pub mod PortLaws
pub mod Choice
pub mod Lists
pub mod Inputs
pub mod Marks
pub mod Plain
