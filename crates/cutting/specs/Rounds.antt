-- The rounds of a file in which they are joined end to end.
-- Assumes nothing.
use Rattle.std.specs.Prelude.{ℕ, Bool, List, [], ◌∷◌, ◌++◌, eqb, length, get_or, if◌then◌else◌}
use Rattle.records.specs.Bytes.{byte}
use Rattle.reading.specs.File.{file_records}

-- a record of kind 1, whatever else it says
abbrev pub starts_round : List ℕ → Bool
starts_round b = eqb (byte b 0) 1

-- Record 0 starts a round, and so does every later record of kind 1. (l: the bytes of the round that is open, before these records.)
unfoldable pub rounds_from : List ℕ → List (List ℕ) → List (List ℕ)
rounds_from l [] = l ∷ []
rounds_from l (b ∷ bs) = if starts_round b then l ∷ rounds_from b bs else rounds_from (l ++ b) bs

-- An empty file has no rounds.
unfoldable pub rounds_of : List (List ℕ) → List (List ℕ)
rounds_of [] = []
rounds_of (b ∷ bs) = rounds_from b bs

-- the rounds of a file, each a file of its own; an odd tail is in none
unfoldable pub shift_rounds : List ℕ → List (List ℕ)
shift_rounds l = rounds_of (file_records l)

-- how many these are
abbrev pub round_count : List ℕ → ℕ
round_count l = length (shift_rounds l)

-- the first of them, and no bytes where there is none
unfoldable pub first_round : List ℕ → List ℕ
first_round l = get_or (shift_rounds l) 0 []
