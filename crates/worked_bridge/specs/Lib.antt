pub mod Packets
pub mod Small
