pub mod SourceEntries
pub mod Freed
pub mod Holding
pub mod Moves
pub mod MediaPackets
pub mod Effects
