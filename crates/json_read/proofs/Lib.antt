-- Members and elements lie within the text.
pub mod RowsLeft
pub mod Within
pub mod RowPlaces
pub mod Levels
pub mod RowValues
-- For the proofs of the functions.
pub mod NumberParts
pub mod StringParts
pub mod ValueParts
pub mod MemberParts
pub mod MemberRows
pub mod MemberTable
pub mod Knowing
