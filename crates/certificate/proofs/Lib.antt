-- The laws of ranges, of question 14 in numbers without a sign, and of the numbers that refuse a certificate.
pub mod Balance
pub mod Refusals
pub mod Example
pub mod DiscountRefusals
pub mod InRange
pub mod Signed
pub mod Parts
pub mod Steps
pub mod Tests
