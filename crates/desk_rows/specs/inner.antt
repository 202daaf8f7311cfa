pub mod Listed
pub mod tables
pub mod judging
