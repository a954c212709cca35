-- What comparing answers, as functions of places.
pub mod Same
-- What only inner contracts cite.
pub mod Inner
