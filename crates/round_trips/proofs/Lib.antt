-- The rules on a recipient that has one header only.
pub mod OneHeader
-- When neither the writer nor the reader refuses, test by test.
pub mod Passing
-- Octets that stand encoded come back; where the components of a written message stand.
pub mod ComingBack
pub mod Places
-- The two round trips, and both in one page.
pub mod WrittenReads
pub mod ReadWrites
pub mod RoundTrips
