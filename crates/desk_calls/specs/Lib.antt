pub mod Edits
pub mod Desk
pub mod Following
pub mod Accepted
pub mod laws
pub mod inner
