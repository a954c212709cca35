-- What is given, and tests whose numbers are of a list.
pub mod Given
pub mod Listed
-- The writer's tests, those on the pieces included, and when none of them refuses.
pub mod Passing
-- What is written reads back; when nothing is refused; what a refusal says, and when it is given. And all on one page.
pub mod WrittenReads
pub mod WritesExactly
pub mod Refusing
pub mod Followed
pub mod RefusedExactly
pub mod JsonTrips
