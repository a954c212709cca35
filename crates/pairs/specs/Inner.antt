-- Where a walk over two objects stands, and what a step of it answers.
pub mod Walks
