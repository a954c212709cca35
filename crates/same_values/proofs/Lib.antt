-- What is shown stands in Theorems; the other files are the way to it.
pub mod Theorems
-- The relation's own equation, and what it says of values of each kind.
pub mod Relation
pub mod EachKind
-- Trees that sit in octets, and values with the same octets.
pub mod Sitting
pub mod Trimmed
pub mod Octets
-- As many, all paired: the right side is distinct and paired too. So the relation can be turned round.
pub mod Counting
pub mod Pairing
pub mod Equivalence
-- Comparing where values stand decides the relation.
pub mod Decide
