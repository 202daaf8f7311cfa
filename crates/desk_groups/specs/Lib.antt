pub mod Making
pub mod Rooms
pub mod inner
