pub mod Resends
pub mod PassedUp
pub mod inner
pub mod Times
pub mod SenderReports
pub mod LossNotes
