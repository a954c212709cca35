-- What only inner contracts cite: nothing that has to be believed imports these (.ci/believed).
pub mod Laws
pub mod Sinks
pub mod Members
