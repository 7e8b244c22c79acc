-- what `routes` promises
pub mod Graph
pub mod Walks
pub mod Stubs
pub mod Routes
pub mod Table
-- words between the stages of the calculation, which no promise of the crate names
pub mod Hops
pub mod Search
pub mod Ports
pub mod Offers
