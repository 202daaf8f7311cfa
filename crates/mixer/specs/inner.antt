pub mod Rooms
pub mod Ready
pub mod Named
pub mod Counted
pub mod Encoded
