-- The laws of sums and of sets, for the crates that add up over winners and over sets of them.
pub mod Sums
pub mod Members
pub mod Sets
pub mod Tables
pub mod Filled
pub mod Prefixes
