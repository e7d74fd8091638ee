-- Laws that other crates cite too. Assumes nothing.
pub mod Shifts
pub mod Lengths
