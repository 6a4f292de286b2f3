-- The pool of seven wins by value: refused, or shared; and what holds of its shares in both cases.
-- Assumes nothing.
use Prim.Native.Nat.{ℕ, ◌≤◌}
use mathlib.Core.Path.{◌≡◌, refl}
use mathlib.Core.Bool.{Bool, true, false}
use mathlib.Core.List.{List}
use native.Mathlib.Nat.{le_trans}
use native.Mathlib.Omega.{arith}
use lib.Dec.{eqb, leb}
use lib.ListN.{get_or, replicate}
use borrow.Author.Tests.{leb-true, leb-false, ne_eqb, eqb-true, eqb-false}
use Rattle.counting.specs.Count.{total}
use Rattle.counting.proofs.Tallies.{total_at}
use Rattle.pool.specs.Pool.{shares_of, share_refusal, shared_pool, refused_pool, pool_of}
use Rattle.pool.specs.Shares.{Shares}
use Rattle.pool.proofs.Shares.{shares_law, kept}

-- together the shares are within the maximum
pub all_within : (maximum : ℕ) (wins shares : List ℕ) → Shares maximum wins shares → total shares ≤ maximum
all_within maximum wins shares s = go (leb (total wins) maximum) refl
  where
    go : (full : Bool) → leb (total wins) maximum ≡ full → total shares ≤ maximum
    go true e = let fits = leb-true (total wins) maximum e in rw (s.in_full fits) fits
    go false e = omega (arith, s.exactly (leb-false (total wins) maximum e))

module _ (wins : List ℕ) (maximum : ℕ) where
  pub pool-refused : (share_refusal wins maximum 7 ≡ 0 → ⊥) → pool_of wins maximum ≡ refused_pool (share_refusal wins maximum 7)
  unfolding pool_of
  pool-refused n = simp (ne_eqb _ _ n)

  pub pool_shared : share_refusal wins maximum 7 ≡ 0 → pool_of wins maximum ≡ shared_pool wins maximum
  unfolding pool_of
  pool_shared e = simp e

  -- a share is at most its win, and at most the largest maximum
  abbrev Small : List ℕ → Type 0
  Small shares = (k : ℕ) → (get_or shares k 0 ≤ get_or wins k 0) × (get_or shares k 0 ≤ 75000)

  pub shares_small : Small (pool_of wins maximum).shares
  unfolding total
  shares_small = go (eqb (share_refusal wins maximum 7) 0) refl
    where
      go : (none : Bool) → eqb (share_refusal wins maximum 7) 0 ≡ none → Small (pool_of wins maximum).shares
      go true e k =
          let none = eqb-true _ _ e in
          let law = shares_law maximum wins in
          rw (pool_shared none) (law.at_most k, le_trans (total_at (shares_of maximum wins) k) (le_trans (all_within maximum wins _ law) (kept wins maximum 7 none).3))
      go false e k =
          let zero = total_at (replicate 7 0) k in
          rw (pool-refused (eqb-false _ _ e)) (omega arith, omega arith)
