-- Two files, as records, that differ only in the order of choices within a street.
-- Assumes nothing.
use Rattle.std.specs.Prelude.{ℕ, ◌<◌, ◌≡◌, Bool, not, ◌&&◌, List, [], ◌∷◌, ◌++◌, eqb}
use Rattle.counting.specs.Count.{gather}
use Rattle.counting.specs.Order.{Reordered}
use Rattle.records.specs.Bytes.{byte}
use Rattle.round.specs.declared.Round.{Round}
use Rattle.round.specs.Order.{fresh_round}
use Rattle.round.specs.Feed.{feed}
use Rattle.led.specs.Records.{only, street_of}

abbrev pub is_choice : List ℕ → Bool
is_choice b = eqb (byte b 0) 4

-- the records that are no choices
unfoldable pub no_choices : List (List ℕ) → List (List ℕ)
no_choices [] = []
no_choices (b ∷ bs) = only (not (is_choice b)) b ++ no_choices bs

-- the choices on street s, of records that are fed one after the other to a round
unfoldable pub choices_from : Round → List (List ℕ) → ℕ → List (List ℕ)
choices_from r [] s = []
choices_from r (b ∷ bs) s = only (is_choice b && eqb (street_of r) s) b ++ choices_from (feed r b).round bs s

-- those of a file
abbrev pub choices_on : List (List ℕ) → ℕ → List (List ℕ)
choices_on l s = choices_from fresh_round l s

-- the records that are no choices, then the choices street by street
unfoldable pub by_street : List (List ℕ) → List (List ℕ)
by_street l = no_choices l ++ gather 3 (choices_on l)

-- The same records, each street's choices in another order, and nothing else moved.
pub record SameButOrder (l m : List (List ℕ)) : Type 0 where
  -- both files go street by street;
  pub first : by_street l ≡ l
  pub second : by_street m ≡ m
  -- the records that are no choices are the same, in the same order,
  pub others : no_choices l ≡ no_choices m
  -- and on each street the same choices were made, in whatever order.
  pub streets : (s : ℕ) → s < 3 → Reordered (choices_on l s) (choices_on m s)
