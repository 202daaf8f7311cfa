pub mod Computed
pub mod Falling
mod Later
pub mod Both
pub mod Fronts
pub mod Leading
