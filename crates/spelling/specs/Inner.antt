-- What only inner contracts cite: nothing that has to be believed imports these (.ci/believed).
pub mod Fingerprints
pub mod Escapes
pub mod Cursors
