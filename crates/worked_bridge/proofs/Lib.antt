pub mod Wires
pub mod Answered
pub mod Spoken
pub mod SliceOctets
pub mod Given
pub mod Playing
