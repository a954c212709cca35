-- What the search does, octet by octet; that it goes over what the reader passes; that it finds the end of what reads.
pub mod Steps
pub mod Passing
pub mod Law
