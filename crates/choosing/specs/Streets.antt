-- Three streets, before the first, second and third community card; in lists they are 0, 1 and 2.
-- Assumes nothing.
use Rattle.std.specs.Prelude.{ℕ, ◌+◌, ◌*◌, Bool, not, ◌&&◌, ◌||◌, List, eqb, get_or, replicate, if◌then◌else◌}
use Rattle.counting.specs.Count.{some_below, tally, sum_below}
use Rattle.records.specs.Seats.{plays}
use Rattle.choosing.specs.declared.Play.{Play}

-- by how many antes the seat at place k raised on street s, 0 where it didn't
abbrev pub raise_on : Play → ℕ → ℕ → ℕ
raise_on p s k = get_or p.raises (s * 7 + k) 0

-- on which street, counted from 1, the seat at place k folded, 0 where it didn't
abbrev pub fold_of : Play → ℕ → ℕ
fold_of p k = get_or p.folds k 0

-- the seat at place k has chosen on street s: it raised or folded
unfoldable pub has_chosen : Play → ℕ → ℕ → Bool
has_chosen p s k = not (eqb (raise_on p s k) 0) || eqb (fold_of p k) (s + 1)

-- it is still in
abbrev pub still_in : List ℕ → Play → ℕ → Bool
still_in antes p k = plays antes k && eqb (fold_of p k) 0

-- On each street, every seat still in chooses once: it has still to choose on street s
abbrev pub has_to_choose : List ℕ → Play → ℕ → ℕ → Bool
has_to_choose antes p s k = still_in antes p k && eqb (raise_on p s k) 0

-- some seat has still to choose on street s
unfoldable pub is_open : List ℕ → Play → ℕ → Bool
is_open antes p s = some_below 7 (has_to_choose antes p s)

-- When the last has chosen, the next street opens: how many streets are over. The round is finished after street three, or when no
-- seat is still in: then no street is open, and all three are over.
unfoldable pub streets_over : List ℕ → Play → ℕ
streets_over antes p =
    if is_open antes p 0 then 0
    else if is_open antes p 1 then 1
    else if is_open antes p 2 then 2
    else 3

-- how many choices were taken
unfoldable pub choices_taken : Play → ℕ
choices_taken p = sum_below 3 (λ s. tally 7 (has_chosen p s))

-- before the first choice
abbrev pub no_play : Play
no_play = record { raises = replicate 21 0; folds = replicate 7 0 }
