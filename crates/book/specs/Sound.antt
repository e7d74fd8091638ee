-- A sound book as plain facts: what questions 2 to 5 say of it when none is answered no, whether it was read from bytes or is a value. The
-- law that the questions give them is in proofs/Soundness.antt. The layers above take what they need of a sound book from here. Assumes
-- nothing: these are definitions.
use Rattle.std.specs.Prelude.{◌≡◌, ℕ, ◌≤◌, ◌<◌, length, get_or}
use Rattle.book.specs.Lists.{total}
use Rattle.book.specs.Book.{Kind, Book, bid_at, client_of, clients, reserves_of}
use Rattle.book.specs.Questions.{bids_of}

-- no bid asks for a kind that the book does not have: so it is of every book that was read from bytes or is a value, sound or not
abbrev pub Shaped : Book → Type 0
Shaped b = (i : ℕ) → length (bid_at b i).hours ≤ length b.kinds

-- what is read where there is no kind
unfoldable pub no_kind : Kind
no_kind = record { supply = 0; reserve = 0 }

pub record Sound (b : Book) : Type 0 where
  -- 2
  pub k_low : 1 ≤ length b.kinds
  pub k_high : length b.kinds ≤ 4
  pub n_low : 1 ≤ clients b
  pub n_high : clients b ≤ 6
  pub m_high : length b.bids ≤ 48
  -- 3
  pub supply : (k : ℕ) → k < length b.kinds → (get_or b.kinds k no_kind).supply ≤ 200
  pub reserve : (k : ℕ) → k < length b.kinds → (get_or b.kinds k no_kind).reserve ≤ 10000
  -- 4
  pub client_low : (i : ℕ) → 1 ≤ i → i ≤ length b.bids → 1 ≤ client_of b i
  pub client_high : (i : ℕ) → 1 ≤ i → i ≤ length b.bids → client_of b i ≤ clients b
  pub hours : (i : ℕ) → 1 ≤ i → i ≤ length b.bids → 1 ≤ total (bid_at b i).hours
  pub amount_low : (i : ℕ) → 1 ≤ i → i ≤ length b.bids → 1 ≤ (bid_at b i).amount
  pub amount_high : (i : ℕ) → 1 ≤ i → i ≤ length b.bids → (bid_at b i).amount ≤ 1000000
  pub eight : (c : ℕ) → 1 ≤ c → c ≤ clients b → bids_of c b.bids ≤ 8
  -- 5: so the amount less the reserves, ρ, is exact
  pub reserves : (i : ℕ) → 1 ≤ i → i ≤ length b.bids → reserves_of (bid_at b i).hours b.kinds ≤ (bid_at b i).amount
  -- each bid asks of each kind
  pub kinds_each : (i : ℕ) → 1 ≤ i → i ≤ length b.bids → length (bid_at b i).hours ≡ length b.kinds
