pub mod Printed
pub mod Settings
pub mod SettingsTold
pub mod SettingValues
