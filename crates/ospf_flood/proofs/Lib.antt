pub mod RetransmissionLaws
pub mod FloodLaws
pub mod VerdictLaws
pub mod OneLsa
