pub mod Takers
pub mod Seating
pub mod Audible
