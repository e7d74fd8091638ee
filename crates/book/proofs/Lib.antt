-- The laws that the proofs of this crate and the layers above cite.
pub mod Fields
pub mod Products
pub mod Next
pub mod Places
pub mod Soundness
pub mod Refusals
pub mod SoundRead
pub mod Held
pub mod ByKind
pub mod RowLaws
pub mod Tests
pub mod Lists
pub mod AskedHours
pub mod Tally
pub mod ReservedHours
pub mod HeldTests
pub mod Whole
pub mod RoundTrip
pub mod Inside
pub mod Entered
pub mod Answering
-- The contracts and the definitions at work.
pub mod Example
