pub mod Given
pub mod Order
