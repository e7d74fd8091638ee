-- Sheets, the questions put to them, and what is promised of the answer. Assumes nothing.
-- What is judged: the sheet's layout, what is judged of its winners, questions 6 to 15, and the call as a whole.
pub mod Sheet
pub mod Winners
pub mod Questions
pub mod Call
-- The words of the demands, and the demands.
pub mod Discounts
pub mod Acceptable
pub mod Promise
-- What is answered.
pub mod Answer
-- What else is to be shown.
pub mod Bounds
pub mod OneDenominator
pub mod Inputs
