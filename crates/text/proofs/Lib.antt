-- The laws of text and of decimal digits, for callers of the crate. Assumes nothing.
pub mod Decimal
pub mod Pushes
