pub mod KeyedLemmas
pub mod Turns
pub mod TokenLaws
pub mod AskLaws
