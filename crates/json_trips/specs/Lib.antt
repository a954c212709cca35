-- What is read of a message that the JSON writer wrote, and when it refuses nothing.
pub mod JsonTrips
-- What each of its numbers says.
pub mod JsonNumbers
