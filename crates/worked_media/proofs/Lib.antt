pub mod PacketsSent
pub mod FrameSent
pub mod MixesSent
pub mod Stood
pub mod Behind
