-- The numbers by which the code compares wins: where a win stands, the larger the earlier. Nothing that is promised speaks of them.
-- Assumes nothing.
use Rattle.std.specs.Prelude.{ℕ, ◌+◌, ◌*◌, ◌-◌, Bool, ◌&&◌, List, leb, ltb, length, get_or, if◌then◌else◌}
use Rattle.counting.specs.Choose.{one}
use Rattle.counting.specs.Count.{above, each}
use Rattle.pool.specs.Pool.{fraction}

-- By the fraction first, then by the place, one of seven. It is never 0.
abbrev pub standing : ℕ → ℕ → ℕ
standing part place = part * 8 + (7 - place)

-- the standings of the first i wins of a pool, each at its place of seven, and 0 at the others
unfoldable pub standing_at : ℕ → ℕ → List ℕ → ℕ → ℕ → ℕ
standing_at maximum pool wins i k = if ltb k i then standing (fraction maximum pool (get_or wins k 0)) k else 0

unfoldable pub standings : ℕ → ℕ → List ℕ → ℕ → List ℕ
standings maximum pool wins i = each 7 (standing_at maximum pool wins i)

-- A dollar falls to whoever has a fraction and fewer standings above its own than there are dollars. Who has no fraction has at least that many
-- above it, and needn't be compared.
unfoldable pub gets_dollar : ℕ → List ℕ → ℕ → Bool
gets_dollar left numbers own = leb 8 own && ltb (above numbers own) left

-- each share with its dollar
unfoldable pub given : ℕ → List ℕ → List ℕ → List ℕ
given left numbers shares = each (length shares) (λ k. get_or shares k 0 + one (gets_dollar left numbers (get_or numbers k 0)))
