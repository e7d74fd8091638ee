-- The laws that the proofs of this crate cite.
pub mod NumberedTests
-- Reading a sheet.
pub mod ReadColumns
pub mod Formed
pub mod BidNumbers
pub mod Numbers
pub mod Outcomes
pub mod Example
-- The chain of questions, and the answer.
pub mod WinnersPay
pub mod Chaining
pub mod Weighing
pub mod Limits
pub mod Judging
pub mod Parts
pub mod Readings
-- The contract of judging at work.
pub mod Promised
