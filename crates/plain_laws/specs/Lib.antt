pub mod CoreRuns
pub mod SentLists
pub mod SentAgain
