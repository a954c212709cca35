-- What only inner contracts cite: nothing that has to be believed imports these (.ci/believed).
pub mod Ends
pub mod Numbers
pub mod Known
pub mod Rows
