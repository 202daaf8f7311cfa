pub mod IsSound
pub mod Joined
pub mod ToOwner
