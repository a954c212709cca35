-- For the proofs of the functions.
pub mod Asked
-- Rules asked in order.
pub mod Order
-- On what the rules depend.
pub mod Alike
-- The content algorithm of a recipient.
pub mod ContentAlgorithm
