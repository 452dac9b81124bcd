pub mod Laws
pub mod Bytes
pub mod Pieces
