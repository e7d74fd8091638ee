-- Sums over an index, and sets written as numbers.
pub mod Sums
pub mod Sets
pub mod Tables
