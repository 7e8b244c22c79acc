pub mod RouteLaws
pub mod OwnLaws
pub mod Equalities
pub mod Sound
