pub mod Asked
pub mod Attempts
pub mod Ended
pub mod Pacing
pub mod Sockets
