pub mod Writable
pub mod ReportsWritable
pub mod ToldOnce
