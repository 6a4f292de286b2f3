-- Seats 1 to 7, and who plays.
-- Assumes nothing.
use Rattle.std.specs.Prelude.{ℕ, ◌-◌, Bool, not, List, eqb, get_or}
use Rattle.counting.specs.Count.{some_below}

-- a seat's place in a list of seven
abbrev pub place : ℕ → ℕ
place seat = seat - 1

-- the seat at place k plays: it has an ante
abbrev pub plays : List ℕ → ℕ → Bool
plays antes k = not (eqb (get_or antes k 0) 0)

-- some seat plays
unfoldable pub any_plays : List ℕ → Bool
any_plays antes = some_below 7 (plays antes)
