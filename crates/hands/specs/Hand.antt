-- What names are made of: how often ranks and suits occur, runs, and the refusals of a hand.
-- Assumes nothing.
use Rattle.std.specs.Prelude.{ℕ, zero, suc, ◌+◌, ◌-◌, Bool, not, List, eqb, leb, ltb, length, if◌then◌else◌}
use Rattle.counting.specs.Count.{count, tally, every_below, some_below}
use Rattle.cards.specs.Card.{rank, suit, two, ace}
use Rattle.cards.specs.Deck.{faulty}

-- how many of the cards have the rank r, and how many the suit s
unfoldable pub of_rank : List ℕ → ℕ → ℕ
of_rank cs r = count (λ c. eqb (rank c) r) cs

unfoldable pub of_suit : List ℕ → ℕ → ℕ
of_suit cs s = count (λ c. eqb (suit c) s) cs

-- Names go by these numbers alone. In what follows h says how often each rank occurs, and t how often each suit.

-- of the n ranks from lo on, how many occur exactly k times
unfoldable pub kinds : ℕ → ℕ → ℕ → (ℕ → ℕ) → ℕ
kinds k lo n h = tally n (λ i. eqb (h (lo + i)) k)

-- how many of the thirteen ranks occur exactly k times
abbrev pub of_a_kind : ℕ → (ℕ → ℕ) → ℕ
of_a_kind k h = kinds k two 13 h

-- n cards are of one suit
unfoldable pub flush : ℕ → (ℕ → ℕ) → Bool
flush n t = some_below 4 (λ s. eqb (t s) n)

-- An ace ends a straight at either end and never stands inside one: straights lie on the line A 2 3 .. 10 J Q K A, numbered 1 to 14.
-- The rank at number p of the line:
unfoldable pub rank_on : ℕ → ℕ
rank_on p = if eqb p 1 then ace else p - 2

-- n cards are the run from number p of the line on: each of its n ranks occurs
unfoldable pub run : ℕ → ℕ → (ℕ → ℕ) → Bool
run n p h = every_below n (λ i. leb 1 (h (rank_on (p + i))))

-- n cards are a straight: a run from some number on that ends by 14
unfoldable pub straight : ℕ → (ℕ → ℕ) → Bool
straight n h = some_below (15 - n) (λ i. run n (i + 1) h)

-- the highest of the ranks below n that occurs
unfoldable pub highest : ℕ → (ℕ → ℕ) → ℕ
highest zero h = 0
highest (suc n) h = if ltb 0 (h n) then n else highest n h

-- The number of the refusal of a hand that must be n cards, 0 where there is none. 18: the hand isn't n cards. 11: a card above 51,
-- or a repeat.
unfoldable pub hand_refusal : ℕ → List ℕ → ℕ
hand_refusal n cs =
    if not (eqb (length cs) n) then 18
    else if faulty cs then 11
    else 0
