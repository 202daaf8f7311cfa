pub mod Free
pub mod Lease
pub mod Lobby
pub mod Threads
pub mod Told
pub mod Watches
