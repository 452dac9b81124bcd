pub mod Entries
pub mod Rows
pub mod Layered
pub mod Scan
