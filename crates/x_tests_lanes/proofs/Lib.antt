pub mod Begun
pub mod Listed
