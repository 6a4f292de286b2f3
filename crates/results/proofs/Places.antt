-- The shares of a round, and where each amount stands in its results list.
-- Assumes nothing.
use Prim.Native.Nat.{ℕ, ◌+◌, ◌*◌, ◌≤◌, ◌<◌}
use mathlib.Core.Path.{◌≡◌, refl, sym}
use mathlib.Core.Bool.{Bool, true, false}
use native.Mathlib.Omega.{arith}
use lib.ListN.{length, get_or}
use Rattle.counting.proofs.Gathers.{gather-length, gather_at, each_at}
use Rattle.pool.proofs.Pools.{shares_small}
use Rattle.round.specs.declared.Round.{Round}
use Rattle.amounts.specs.Base.{base_wager, pooled, win, kept, wins}
use Rattle.results.specs.Results.{maximum, pool, base_amount, seat_wagers, seat_amounts, results_long, results}

module _ (r : Round) where
  -- ---- the shares

  pub win_at_lem : (k : ℕ) → k < 7 → get_or (wins r) k 0 ≡ win r k
  unfolding wins
  win_at_lem k h = each_at (win r) 7 k h

  pub win-none : (k : ℕ) → pooled r k ≡ false → win r k ≡ 0
  unfolding win
  win-none k p = simp p

  pub share_most : (k : ℕ) → k < 7 → get_or (pool r).shares k 0 ≤ win r k
  unfolding pool
  share_most k h = rw (win_at_lem k h) at (shares_small (wins r) (maximum r.table) k).0

  pub share_small : (k : ℕ) → get_or (pool r).shares k 0 ≤ 75000
  unfolding pool
  share_small k = (shares_small (wins r) (maximum r.table) k).1

  -- ---- the base amount, by whether there is a win in the pool

  pub base-none : (k : ℕ) → k < 7 → win r k ≤ 0 → kept r k ≡ base_amount r k
  unfolding base_amount
  base-none k h none = omega (arith, share_most k h)

  pub base-pooled : (k : ℕ) → pooled r k ≡ true → base_amount r k ≡ 100 * (base_wager r k + get_or (pool r).shares k 0)
  unfolding base_amount kept
  base-pooled k p = simp p (omega arith)

  pub base_some : (k : ℕ) → 0 < win r k → 100 * (base_wager r k + get_or (pool r).shares k 0) ≡ base_amount r k
  base_some k some = go (pooled r k) refl
    where
      go : (p : Bool) → pooled r k ≡ p → 100 * (base_wager r k + get_or (pool r).shares k 0) ≡ base_amount r k
      go true p = sym (base-pooled k p)
      go false p = absurd (omega (arith, win-none k p))

  -- ---- the results list

  pub seat_long : (k : ℕ) → k < 7 → length (seat_amounts r k) ≡ seat_wagers
  unfolding seat_amounts
  seat_long k h = refl

  pub results-length : length (results r) ≡ results_long
  unfolding results
  results-length = gather-length seat_wagers (seat_amounts r) 7 seat_long

  -- amount w of the seat at place k, and the base amount
  pub amount_at : (k w : ℕ) → k < 7 → w < seat_wagers → get_or (results r) (seat_wagers * k + w) 0 ≡ get_or (seat_amounts r k) w 0
  unfolding results
  amount_at k w h m = gather_at seat_wagers (seat_amounts r) 7 seat_long k w h m

  pub base_at_lem : (k : ℕ) → k < 7 → get_or (results r) (seat_wagers * k) 0 ≡ base_amount r k
  unfolding seat_amounts
  base_at_lem k h =
      let first : seat_wagers * k + 0 ≡ seat_wagers * k = omega arith in
      rw first at (amount_at k 0 h (omega arith))
