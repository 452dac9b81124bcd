pub mod Checks
pub mod Proved
mod Growing
