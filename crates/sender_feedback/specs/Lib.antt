pub mod Asked
pub mod Upstream
pub mod ReceiverReports
