-- The code's rows for the members of the definitions, and what loops walk along.
pub mod Walking
-- Names told apart by a filter of fingerprints.
pub mod Filter
