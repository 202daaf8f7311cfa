pub mod Same
pub mod Once
pub mod Listed
pub mod Changed
pub mod Waits
pub mod Spaced
pub mod Freed
pub mod Apart
