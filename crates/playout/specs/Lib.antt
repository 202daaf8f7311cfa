pub mod Calls
pub mod Playout
pub mod Playouts
pub mod Renewal
pub mod inner
pub mod laws
