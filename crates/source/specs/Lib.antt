pub mod Meaning
pub mod Books
pub mod Due
pub mod Layers
pub mod Cheapest
