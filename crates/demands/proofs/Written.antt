-- Books and sheets written as bytes, from their entries (FORMAT, "Book" and "Sheet"). The table of edges and the longest call are written
-- so. Assumes nothing: these are definitions.
use mathlib.Core.List.{List, [], ◌∷◌, ◌++◌}
use Prim.Native.Nat.{ℕ, zero, suc, ◌+◌, ◌/◌, ◌%◌}
use lib.ListN.{length}

-- a number in n bytes, the first weighing most
unfoldable pub big : (n x : ℕ) → List ℕ
big zero x = []
big (suc n) x = big n (x / 256) ++ (x % 256 ∷ [])

-- lists one after the other
unfoldable pub joined : List (List ℕ) → List ℕ
joined [] = []
joined (xs ∷ xss) = xs ++ joined xss

-- version, length of the whole, and the rest
unfoldable pub framed : (version : ℕ) → (rest : List ℕ) → List ℕ
framed v xs = v ∷ (big 2 (3 + length xs) ++ xs)

-- BOOKS
unfoldable pub kind : (supply reserve : ℕ) → List ℕ
kind supply reserve = supply ∷ big 2 reserve

unfoldable pub bid : (client : ℕ) → (hours : List ℕ) → (amount : ℕ) → List ℕ
bid client hours amount = client ∷ (hours ++ big 4 amount)

-- all of a book behind its length, each part behind its count
unfoldable pub entries : (kinds : List (List ℕ)) → (statuses : List ℕ) → (bids : List (List ℕ)) → List ℕ
entries ks ss xs = (length ks ∷ joined ks) ++ (length ss ∷ ss) ++ (length xs ∷ joined xs)

unfoldable pub book : (kinds : List (List ℕ)) → (statuses : List ℕ) → (bids : List (List ℕ)) → List ℕ
book ks ss xs = framed 1 (entries ks ss xs)

-- SHEETS
unfoldable pub winner : (X Z R T : ℕ) → List ℕ
winner X Z R T = big 8 X ++ big 4 Z ++ big 8 R ++ big 8 T

unfoldable pub set : (Y U : ℕ) → List ℕ
set Y U = big 4 Y ++ big 8 U

-- all of a sheet behind its length; G in the 64 bits of two's complement
unfoldable pub numbers : (bids : List ℕ) → (q s : ℕ) → (winners : List (List ℕ)) → (G : ℕ) → (sets : List (List ℕ)) → List ℕ
numbers is q s ws G Ls = (length is ∷ is) ++ big 4 q ++ big 4 s ++ joined ws ++ big 8 G ++ joined Ls

unfoldable pub sheet : (bids : List ℕ) → (q s : ℕ) → (winners : List (List ℕ)) → (G : ℕ) → (sets : List (List ℕ)) → List ℕ
sheet is q s ws G Ls = framed 1 (numbers is q s ws G Ls)

-- what they compute with
unfoldable pub written : Unit {0}
unfolding big joined framed kind bid entries book winner set numbers sheet
written = tt
