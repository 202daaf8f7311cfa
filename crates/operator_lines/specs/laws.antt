pub mod Read
pub mod Whole
