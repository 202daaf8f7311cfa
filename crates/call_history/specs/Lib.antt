pub mod AcceptedCall
pub mod Lists
pub mod Stamp
