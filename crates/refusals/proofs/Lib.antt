-- A test at a time.
pub mod Steps
-- What the forms share, and compact.
pub mod RulesRefuse
pub mod CompactRefuses
-- JSON: the shape, the components, the headers and the recipients, and all of it.
pub mod ShapeRefuses
pub mod SpelledRefuses
pub mod HeadersRefuse
pub mod JsonRefuses
-- The whole order.
pub mod Refused
pub mod GeneralAlone
-- No exchange of numbers meets it.
pub mod Renumbered
-- The header walk, decoding, the AAD and the compact writer.
pub mod FurtherRefuses
