-- What a caller may know of the shares of a pool. Nothing above this crate cites the rule itself.
-- Assumes nothing.
use Rattle.std.specs.Prelude.{ℕ, ◌+◌, ◌≤◌, ◌<◌, ◌≡◌, List, eqb, length, get_or}
use Rattle.counting.specs.Count.{tally, total}
use Rattle.pool.specs.Pool.{rounded_down, fraction_at}

-- the share of the win at place k, rounded down
abbrev pub rounded_at : ℕ → List ℕ → ℕ → ℕ
rounded_at maximum wins k = rounded_down maximum (total wins) (get_or wins k 0)

-- how many places before k have the fraction of the win there
unfoldable pub ties_before : ℕ → List ℕ → ℕ → ℕ
ties_before maximum wins k = tally k (λ j. eqb (fraction_at maximum wins k) (fraction_at maximum wins j))

pub record Shares (maximum : ℕ) (wins shares : List ℕ) : Type 0 where
  -- a share for each win
  pub long : length shares ≡ length wins
  -- a share is at most its win
  pub at_most : (k : ℕ) → get_or shares k 0 ≤ get_or wins k 0
  -- each is the full win where the pool does not exceed the maximum
  pub in_full : total wins ≤ maximum → shares ≡ wins
  -- the shares together are exactly the maximum where the pool exceeds it
  pub exactly : maximum < total wins → total shares ≡ maximum
  -- and each is then at least maximum × win ÷ total, rounded down,
  pub least : maximum < total wins → (k : ℕ) → rounded_at maximum wins k ≤ get_or shares k 0
  -- and at most one dollar more;
  pub most : maximum < total wins → (k : ℕ) → get_or shares k 0 ≤ rounded_at maximum wins k + 1
  -- who gets a dollar has a fraction at least as large as any who doesn't,
  pub largest : maximum < total wins → (j k : ℕ) → rounded_at maximum wins j < get_or shares j 0 → get_or shares k 0 ≤ rounded_at maximum wins k
      → fraction_at maximum wins k ≤ fraction_at maximum wins j
  -- and of two whose fractions are equal the earlier place gets it
  pub earlier : maximum < total wins → (j k : ℕ) → j < k → fraction_at maximum wins j ≡ fraction_at maximum wins k
      → rounded_at maximum wins k < get_or shares k 0 → rounded_at maximum wins j < get_or shares j 0
