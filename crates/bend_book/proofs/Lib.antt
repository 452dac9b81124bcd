pub mod Steps
pub mod Exact
pub mod Bent
