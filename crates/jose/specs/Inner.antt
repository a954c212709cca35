-- What only inner contracts cite: nothing that has to be believed imports these (.ci/believed).
pub mod Elements
pub mod Rules
pub mod Content
