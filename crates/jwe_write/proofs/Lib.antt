-- The message: its length, and what is still to be written of it.
pub mod Message
-- The refusals, stage by stage, and the answers.
pub mod Order
