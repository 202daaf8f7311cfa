pub mod Rates
pub mod Frame
pub mod OwnStreams
pub mod Inputs
pub mod Formats
