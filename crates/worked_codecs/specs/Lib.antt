pub mod Compounds
pub mod Octets
pub mod Packets
pub mod Fixtures
