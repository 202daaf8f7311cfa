pub mod MuLaw
pub mod L16
pub mod inner
