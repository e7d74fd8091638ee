-- The theorems. Assumes nothing.
-- Tests, calls that can be judged, sheets and winners.
pub mod Bools
pub mod Judgeable
pub mod Sheet
pub mod Form
pub mod Winners
-- Combinations shared out among winners and others, the auction that a book makes, and the bounds of sets.
pub mod Keys
pub mod Shares
pub mod Auctions
pub mod Lowered
pub mod Suffice
-- The questions in their order, the demands, and the answer.
pub mod Chain
pub mod Passed
pub mod Accepted
pub mod Promise
pub mod Answer
-- The worked calls and the edges, computed.
pub mod Calls
pub mod Written
pub mod Edges
pub mod Example
-- What else is to be shown.
pub mod Bounds
pub mod OneDenominator
-- Reading: bytes cut and lengthened.
pub mod Alike
pub mod Pairs
pub mod Cut
pub mod Longest
