pub mod PortMasks
pub mod Retransmission
pub mod Flooding
pub mod Verdicts
pub mod Receiving
