-- One reading; the form; rows, modes and places as the message has them.
pub mod OneReading
pub mod FormTold
pub mod RowsShown
pub mod ModeMeans
pub mod JsonStands
pub mod PlacesMean
-- The result, and what is handed out.
pub mod ResultMeans
pub mod HandsOut
pub mod ResultOnce
