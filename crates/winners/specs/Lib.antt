-- What the contracts say.
pub mod Combinations
pub mod Greatest
pub mod Surplus
pub mod Value
pub mod Worth
pub mod Surpluses
pub mod Weighed
-- What only this crate's own contracts and proofs cite: what the search looks up, and what private functions ask.
pub mod ClientLists
pub mod ClientSets
pub mod Full
pub mod ByKind
pub mod Lanes
pub mod Passes
pub mod Rows
pub mod Taken
pub mod Trims
