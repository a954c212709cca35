-- The refusals of a JSON message, stage by stage.
pub mod Exits
pub mod JsonOrder
-- Recipients as numbers of a table, and loops over them.
pub mod RecipientRows
-- Own headers collected one beside the other.
pub mod OwnHeaders
-- Their content algorithms.
pub mod Contents
-- The headers of a JSON message.
pub mod JsonHeaders
-- The places of components.
pub mod JsonPlaces
-- From the own headers on.
pub mod JsonHeads
-- Any recipient, by the first one.
pub mod JsonAsked
-- From the protected header on.
pub mod JsonShaped
-- The top level and the recipients.
pub mod JsonTop
-- What a message holds, in the lent tables.
pub mod HeldTables
-- The full stops of a compact message.
pub mod Splitting
-- The first refusal of a compact message, stage by stage.
pub mod CompactOrder
-- What is known where a stage passed, or refused.
pub mod Stages
-- What judging answers.
pub mod Answering
-- What is handed out, form by form.
pub mod Outcomes
-- For `read`: 1 to 3, and what the lent outputs hold afterwards.
pub mod Handing
-- Every number of a result fits 32 bits.
pub mod SmallRefusals
pub mod SmallOutcomes
pub mod Small
