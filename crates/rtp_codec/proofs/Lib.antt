pub mod PacketLemmas
pub mod Faultless
