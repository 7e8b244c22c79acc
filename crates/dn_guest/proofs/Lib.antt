pub mod FloodLaws
pub mod Orderings
