-- The definitions that the contracts cite. Assumes nothing.
pub mod Listing
pub mod Readings
