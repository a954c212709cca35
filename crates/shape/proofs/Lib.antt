-- 10 on the members of an object.
pub mod Members
-- Recipients as numbers.
pub mod Numbers
-- The elements of `recipients`, counted.
pub mod Walking
-- Refusals that are handed up.
pub mod Orders
-- The entries of an object of the message, and refusals 7 to 10 on it.
pub mod Objects
-- The elements of `recipients`, read.
pub mod Reading
-- What is known of a message that has been judged.
pub mod Known
-- The recipients of a flattened and of a general message.
pub mod Forms
