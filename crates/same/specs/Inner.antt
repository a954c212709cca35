-- The same for the code's structs, and where its loops stand.
pub mod Walking
