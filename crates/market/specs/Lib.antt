-- The definitions. Assumes nothing.
-- The problem: what a market is, what a combination of its bids is and which value is the greatest, and the recursion for it.
pub mod Market
pub mod Combination
pub mod Greatest
-- What the theory and the layers above speak of besides: vectors, clients kept, and what changes.
pub mod Vector
pub mod Restrict
pub mod Members
pub mod Change
