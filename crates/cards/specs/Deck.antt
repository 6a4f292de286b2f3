-- A repeated card, the fault that refusal 11 names, and a whole deck.
-- Assumes nothing.
use Rattle.std.specs.Prelude.{ℕ, ◌+◌, ◌-◌, Bool, not, ◌&&◌, ◌||◌, List, eqb, length, get_or, drop}
use Rattle.counting.specs.Count.{every_of, some_below}
use Rattle.cards.specs.Card.{is_card}

-- places i and j hold the same card
abbrev pub same_at : List ℕ → ℕ → ℕ → Bool
same_at cs i j = eqb (get_or cs i 0) (get_or cs j 0)

-- the card at place i stands at an earlier place too
unfoldable pub repeated_at : List ℕ → ℕ → Bool
repeated_at cs i = some_below i (same_at cs i)

-- a repeat: a card that stands at an earlier place too
unfoldable pub repeats : List ℕ → Bool
repeats cs = some_below (length cs) (repeated_at cs)

-- a card from place n on stands at an earlier place too
unfoldable pub repeats_from : ℕ → List ℕ → Bool
repeats_from n cs = some_below (length cs - n) (λ i. repeated_at cs (n + i))

-- a card above 51, or a repeat
unfoldable pub faulty : List ℕ → Bool
faulty cs = not (every_of is_card cs) || repeats cs

-- a card from place n on is above 51, or stands at an earlier place too
unfoldable pub faulty_from : ℕ → List ℕ → Bool
faulty_from n cs = not (every_of is_card (drop n cs)) || repeats_from n cs

-- a whole deck: 52 cards, no fault
unfoldable pub whole_deck : List ℕ → Bool
whole_deck cs = eqb (length cs) 52 && not (faulty cs)
