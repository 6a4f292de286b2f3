-- The base amount of a seat, from what was worked out once for all seats: by whether it has a win in the pool.
-- Assumes nothing.
use Prim.Native.Nat.{ℕ, ◌+◌, ◌*◌, ◌≤◌, ◌<◌}
use mathlib.Core.Path.{◌≡◌, ap, ◌∙◌}
use native.Mathlib.Omega.{arith}
use lib.ListN.{get_or}
use Rattle.counting.proofs.Gathers.{each_at}
use Rattle.round.specs.declared.Round.{Round}
use Rattle.amounts.specs.Base.{base_wager, kept}
use Rattle.results.specs.declared.Judged.{Judged}
use Rattle.results.specs.Results.{judged_of, base_amount}
use Rattle.results.proofs.Places.{win_at_lem, share_small, base-none, base_some}

module _ (r : Round) (j : Judged) (k : ℕ) (h : k < 7) (e : j ≡ judged_of r) where
  pub share_there : get_or j.pool.shares k 0 ≤ 75000
  share_there = rw e (share_small r k)

  win_there : get_or j.bases.wins k 0 ≡ get_or (judged_of r).bases.wins k 0
  win_there = ap (λ (i : Judged). get_or i.bases.wins k 0) e

  pub base_with : 0 < get_or j.bases.wins k 0 → 100 * (base_wager r k + get_or j.pool.shares k 0) ≡ base_amount r k
  base_with p =
      ap (λ (i : Judged). 100 * (base_wager r k + get_or i.pool.shares k 0)) e
      ∙ base_some r k (omega (arith, win_there, win_at_lem r k h))

  pub base-without : get_or j.bases.wins k 0 ≤ 0 → get_or j.bases.kept k 0 ≡ base_amount r k
  base-without p =
      ap (λ (i : Judged). get_or i.bases.kept k 0) e
      ∙ each_at (kept r) 7 k h
      ∙ base-none r k h (omega (arith, win_there, win_at_lem r k h))
