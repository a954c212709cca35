-- From the trees of a reading to the rows that the reader collects, one for one.

-- Lists whose elements are related one for one.
pub mod OneForOne
-- Values, members and elements that stand where the reader says.
pub mod Standing
pub mod Rows
-- What the tests on spellings and on names decide of the strings.
pub mod Saying
pub mod Naming
-- Tests and the sentences that they decide.
pub mod Deciding
pub mod Numbering
pub mod Entries
-- The rules on headers, refusal by refusal, and all of them.
pub mod NamesApart
pub mod Parameters
pub mod CriticalNames
pub mod KeyFits
pub mod RulesDecided
-- One content algorithm for all recipients.
pub mod ContentDecided
-- Tests in order.
pub mod InOrder
-- The compact form: its parts, their spelling, its header, and all of it.
pub mod FiveParts
pub mod SpelledDecided
pub mod CompactHeader
pub mod CompactDecided
-- A JSON message: its shape, its components, its recipients, and all of its refusals.
pub mod ShapeValues
pub mod MemberEntries
pub mod Shapes
pub mod Lookups
pub mod ShapeDecided
pub mod ComponentsDecided
pub mod Orders
pub mod RecipientsDecided
pub mod ProtectedDecided
pub mod EachRecipient
pub mod JsonTests
pub mod JsonDecided
-- The forms, the whole order, and what a refusal leaves.
pub mod FormsApart
pub mod FormTold
pub mod Accepted
pub mod Refused
-- What is handed out.
pub mod HandedOut
pub mod PlacedNames
pub mod MemberPlaced
pub mod JsonPassed
pub mod JsonHeaders
pub mod JsonApplies
pub mod HandedFits
pub mod ComponentsSpelled
pub mod HandedExactly
-- And what applies is one.
pub mod HeaderOctets
pub mod MemberOnce
pub mod AppliesOnce
