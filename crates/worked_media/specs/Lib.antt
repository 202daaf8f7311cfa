pub mod Blocks
pub mod Sent
pub mod Streamed
pub mod Upstreams
pub mod Reported
pub mod Rooms
pub mod Late
