pub mod DatabaseLaws
pub mod Equalities
pub mod Lookups
