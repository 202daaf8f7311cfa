pub mod Sending
pub mod Timestamps
pub mod RoutedList
pub mod Streams
pub mod Mixes
pub mod inner
pub mod laws
