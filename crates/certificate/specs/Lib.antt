-- What figures stand for, the numbers that refuse a certificate, and what must be in range for them.
pub mod Refusals
pub mod Bounds
pub mod DiscountRefusals
pub mod Figures
pub mod InRange
pub mod Readiness
