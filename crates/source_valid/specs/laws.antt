pub mod Delays
pub mod Intervals
pub mod Losses
pub mod Probations
pub mod Restarts
pub mod Steady
pub mod TrueNumbers
