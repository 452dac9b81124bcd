pub mod Bends
pub mod Heads
pub mod HeadTest
pub mod BendBook
