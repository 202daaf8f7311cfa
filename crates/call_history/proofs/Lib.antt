pub mod DeskLists
pub mod Ends
pub mod Newest
