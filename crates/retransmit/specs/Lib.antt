pub mod SentPacket
pub mod Window
pub mod inner
pub mod laws
