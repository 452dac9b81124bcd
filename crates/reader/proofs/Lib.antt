mod Bits
mod Tables
mod Spelling
pub mod Exact
mod CallSpelling
mod CallRuns
mod Running
pub mod Fronts
pub mod SameCalls
pub mod Stays
mod Retrying
pub mod Whole
pub mod Filling
