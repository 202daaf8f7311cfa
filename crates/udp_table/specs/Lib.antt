pub mod Words
pub mod Table
pub mod Kept
pub mod inner
