pub mod Looking
pub mod Choice
pub mod Receivers
pub mod Mixes
pub mod inner
