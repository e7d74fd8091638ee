-- The definitions that the contracts cite. Assumes nothing.
pub mod Decimal
pub mod Text
