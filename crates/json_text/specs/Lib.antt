-- JSON texts put together of pieces, and a row of a text moved with it.
pub mod Pieces
pub mod Moved
pub mod Inner
