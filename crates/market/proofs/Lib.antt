-- The theory, in the order in which the files build on one another. Assumes nothing.
-- Tests, hours and lists.
pub mod Bools
pub mod Hours
pub mod Each
pub mod Worth
-- The recursion is the greatest over vectors.
pub mod Choose
pub mod Best
pub mod Prune
-- Combinations: their parts, bid after bid, the test, client by client, as vectors.
pub mod Parts
pub mod Row
pub mod Test
pub mod BidOf
pub mod Clients
pub mod Vector
pub mod VectorOf
-- The theorem: the recursion is the greatest over combinations.
pub mod Optimum
-- Laws of the greatest value, from 'attained' and 'unbeaten' alone.
pub mod Compare
pub mod Weights
pub mod Agree
pub mod Restrict
pub mod Fitted
pub mod Kept
pub mod Renumber
-- Clients as members: what they reach with fewer of them and with fewer hours, one member's row of bids, least hours, the split, and
-- heaviest bids that fit together.
pub mod Adding
pub mod Reach
pub mod ReachKept
pub mod Members
pub mod RowOf
pub mod Falling
pub mod Inserting
pub mod LeastHours
pub mod Trimmed
pub mod Split
pub mod Heaviest
-- A market computed.
pub mod Examples
