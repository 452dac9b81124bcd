pub mod Refusals
pub mod Reports
pub mod Bounds
pub mod Routes
