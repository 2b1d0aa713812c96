pub mod Numbers
pub mod Lines
pub mod Pieces
pub mod inside
