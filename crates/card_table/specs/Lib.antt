pub mod Cards
pub mod Lines
