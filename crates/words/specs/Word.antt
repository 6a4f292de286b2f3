-- How often each of the thirteen ranks occurs, in one number: hexadecimal digit r is how often rank r does.
-- Assumes nothing.
use Rattle.std.specs.Prelude.{ℕ, zero, suc, ◌+◌, ◌-◌, ◌*◌, ◌≤◌, ◌≡◌, max, List, [], ◌∷◌, Bool, eqb, ltb, if◌then◌else◌}
use Rattle.counting.specs.Choose.{one}
use Rattle.counting.specs.Count.{sum_below, every_below}
use Rattle.hands.specs.Hand.{rank_on, run}

-- the number with the n hexadecimal digits g 0, g 1, .., the lowest first
unfoldable pub digits : ℕ → (ℕ → ℕ) → ℕ
digits zero g = 0
digits (suc n) g = digits n (λ r. g (suc r)) * 16 + g 0

abbrev pub word : (ℕ → ℕ) → ℕ
word g = digits 13 g

-- the digit 1 at each rank that occurs exactly k times
abbrev pub those : ℕ → (ℕ → ℕ) → ℕ
those k h = word (λ r. one (eqb (h r) k))

-- how often the rank at each place of the line A 2 3 .. Q K A occurs, the low ace's place being 0; past the high ace, none
unfoldable pub on_line : (ℕ → ℕ) → ℕ → ℕ
on_line h i = if ltb i 14 then h (rank_on (i + 1)) else 0

-- the digit 1 at each place of the line from which n cards are a run
abbrev pub starts : ℕ → (ℕ → ℕ) → ℕ
starts n h = digits (15 - n) (λ i. one (run n (i + 1) h))

-- no rank occurs twice
unfoldable pub apart : (ℕ → ℕ) → Bool
apart h = every_below 13 (λ r. ltb (h r) 2)

-- the largest card, 0 where there is none
unfoldable pub largest : List ℕ → ℕ
largest [] = 0
largest (c ∷ cs) = max c (largest cs)

-- the word w says how often each rank occurs in at most n cards
abbrev pub Has : ℕ → ℕ → (ℕ → ℕ) → Type 0
Has n w h = (w ≡ word h) × (sum_below 13 h ≤ n)

-- r is what f makes of how often ranks occur, wherever w says that of at most n cards
abbrev pub Says : {A : Type 0} → ℕ → ℕ → ((ℕ → ℕ) → A) → A → Type 0
Says n w f r = (h : ℕ → ℕ) → Has n w h → r ≡ f h
