pub mod Address
pub mod Class
pub mod Fault
pub mod Octets
pub mod Packet
pub mod Sequence
pub mod View
