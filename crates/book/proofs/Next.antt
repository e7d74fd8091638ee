-- Runs of bytes, kinds and bids from a place on: how long each is, and of bytes what comes next. Cited by Places, Entered and SoundRead,
-- and by the layers above. Assumes nothing.
use mathlib.Core.Path.{◌≡◌, refl, ap}
use mathlib.Core.List.{List, ◌∷◌}
use Prim.Native.Nat.{ℕ, zero, suc, ◌+◌, ◌-◌, ◌<◌}
use native.Mathlib.Omega.{arith}
use lib.ListN.{length}
use Rattle.book.specs.Bytes.{byte, bytes_at}
use Rattle.book.specs.Layout.{kinds_in, bids_in}

-- a run of some bytes is the first of them, and the run after it
pub bytes_next : (t at : ℕ) (bs : List ℕ) → 0 < t → bytes_at t at bs ≡ byte at bs ∷ bytes_at (t - 1) (at + 1) bs
unfolding bytes_at
bytes_next zero at bs some = absurd (omega (arith, some))
bytes_next (suc t) at bs some = let before : suc t - 1 ≡ t = omega arith in rw before refl

-- a run is as long as its count says
pub bytes_length : (t at : ℕ) (bs : List ℕ) → length (bytes_at t at bs) ≡ t
unfolding bytes_at
bytes_length zero at bs = refl
bytes_length (suc t) at bs = ap suc (bytes_length t (at + 1) bs)

pub kinds_length : (t at : ℕ) (bs : List ℕ) → length (kinds_in t at bs) ≡ t
unfolding kinds_in
kinds_length zero at bs = refl
kinds_length (suc t) at bs = ap suc (kinds_length t (at + 3) bs)

pub bids_length : (t k at : ℕ) (bs : List ℕ) → length (bids_in t k at bs) ≡ t
unfolding bids_in
bids_length zero k at bs = refl
bids_length (suc t) k at bs = ap suc (bids_length t k (at + (k + 5)) bs)
