-- What only inner contracts cite: nothing that has to be believed imports these (.ci/believed).
pub mod Prints
pub mod Members
pub mod Views
