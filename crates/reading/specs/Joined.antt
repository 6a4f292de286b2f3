-- A file put together of records.
-- Assumes nothing.
use Rattle.std.specs.Prelude.{ℕ, ◌≡◌, List, [], ◌∷◌, ◌++◌, length}

unfoldable pub joined : List (List ℕ) → List ℕ
joined [] = []
joined (b ∷ bs) = b ++ joined bs

-- each is as long as a record is
unfoldable pub Whole : List (List ℕ) → Type 0
Whole [] = Unit {0}
Whole (b ∷ bs) = (length b ≡ 16) × Whole bs
