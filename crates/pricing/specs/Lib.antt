-- Certificates that discounts are best, in whole numbers over one denominator each, and the questions put to them; auctions in the
-- abstract; the same for fractions, each with a denominator of its own.
pub mod Certificate
pub mod Questions
pub mod Ranges
pub mod Auction
pub mod Fractions
pub mod Discounts
