-- The definitions that the contracts cite. Assumes nothing.
-- What a reader must believe: the contracts of the public functions.
pub mod Judgement
pub mod Reading
-- What only private contracts cite.
pub mod Columns
pub mod Chain
