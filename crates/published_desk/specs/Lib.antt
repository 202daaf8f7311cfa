pub mod Published
pub mod inner
