pub mod TokenLemmas
pub mod LogLemmas
pub mod AnswerLemmas
pub mod SeatLemmas
pub mod PastLemmas
pub mod StampLemmas
