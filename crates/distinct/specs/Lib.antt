-- Members' names, and whether one stands twice.
pub mod Names
-- What only inner contracts cite.
pub mod Inner
