pub mod Cursors
pub mod Compare
pub mod Fingerprints
pub mod Answering
