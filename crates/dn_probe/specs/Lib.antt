pub mod Meaning
pub mod Reports
pub mod Storm
pub mod Routes
pub mod Stations
pub mod Lost
pub mod Loop
