-- Files that are one round each.
-- Assumes nothing.
use Rattle.std.specs.Prelude.{ℕ, ◌%◌, ◌≡◌, true, false, List, [], ◌∷◌, length}
use Rattle.cutting.specs.Rounds.{starts_round, shift_rounds}

-- records of which none starts a round
unfoldable pub StartNone : List (List ℕ) → Type 0
StartNone [] = Unit {0}
StartNone (b ∷ bs) = (starts_round b ≡ false) × StartNone bs

-- a file of whole records that is one round, itself
abbrev pub OneRound : List ℕ → Type 0
OneRound l = (length l % 16 ≡ 0) × (shift_rounds l ≡ l ∷ [])

-- files of which each is one round, and begins with a table record
unfoldable pub Rounds : List (List ℕ) → Type 0
Rounds [] = Unit {0}
Rounds (f ∷ fs) = OneRound f × (starts_round f ≡ true) × Rounds fs
