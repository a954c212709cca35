pub mod HandedOut
pub mod Decoding
pub mod Told
