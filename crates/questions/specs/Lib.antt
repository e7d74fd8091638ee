-- What the contracts of every layer cite. Assumes nothing.
pub mod Numbers
