-- Laws that other crates cite too. Assumes nothing.
pub mod Numbers
