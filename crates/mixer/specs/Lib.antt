pub mod Hearing
pub mod Mixes
pub mod Mixers
pub mod MixLists
pub mod inner
