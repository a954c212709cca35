-- Words, numbers and lines.
pub mod Text
-- Document 01's report on a message.
pub mod Report
-- What the code's parts write, and what it answers.
pub mod Answers
