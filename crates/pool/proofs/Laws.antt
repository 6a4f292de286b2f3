-- The total of wins within their limit.
-- Assumes nothing.
use Prim.Native.Nat.{ℕ, ◌*◌, ◌≤◌}
use mathlib.Core.Path.{◌≡◌}
use mathlib.Core.Bool.{true}
use mathlib.Core.List.{List, [], ◌∷◌}
use native.Mathlib.Omega.{arith}
use lib.Dec.{leb}
use lib.ListN.{length}
use borrow.Author.Tests.{leb-true}
use Rattle.counting.specs.Count.{every_of, total}
use Rattle.counting.proofs.Tests.{and_true}
use Rattle.pool.specs.Pool.{wins_fit}

pub fit_total : (wins : List ℕ) → wins_fit wins ≡ true → total wins ≤ 500000 * length wins
unfolding wins_fit every_of total
fit_total [] e = omega arith
fit_total (win ∷ wins) e =
    let both = and_true (leb win 500000) (wins_fit wins) e in
    omega (arith, leb-true win 500000 both.0, fit_total wins both.1)
