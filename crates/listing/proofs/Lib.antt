-- The laws of the printed text. Assumes nothing.
-- How it is pushed, how long it is, and that it is the one.
pub mod Pushing
pub mod Limits
pub mod Listed
-- Reading: inputs cut, and what was read of them.
pub mod Cut
pub mod Readings
-- The definition at work.
pub mod Example
