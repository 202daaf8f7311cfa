pub mod LaneLemmas
pub mod RunLemmas
pub mod SinkLemmas
pub mod RoundLemmas
