pub mod Anew
pub mod Losing
pub mod Near
pub mod Telling
pub mod Waits
