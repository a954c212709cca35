-- JSON by RFC 8259: the definitions, in the order in which to read them.
pub mod Grammar
pub mod Places
pub mod Utf8
pub mod Strings
pub mod Spellings
pub mod Readings
pub mod Reader
pub mod Shown
pub mod Bounds
