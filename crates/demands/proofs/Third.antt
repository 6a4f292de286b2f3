-- The third demand holds of each finished round that accepted records lead to, and of its results list. Of the shares only the laws
-- `Shares` are used.
-- Assumes nothing.
use Prim.Native.Nat.{ℕ, ◌+◌, ◌*◌, ◌/◌, ◌≤◌, ◌<◌}
use mathlib.Core.Path.{◌≡◌, refl, sym, ◌∙◌}
use mathlib.Core.Bool.{Bool, true, false}
use native.Mathlib.Nat.{le_trans, mul-le-mul_left, div-mul-le_self, le-div_iff_mul-le}
use native.Mathlib.Omega.{arith}
use lib.Dec.{leb}
use lib.ListN.{get_or}
use borrow.Author.Tests.{leb-true, leb-false}
use Rattle.std.specs.Prelude.{if◌then◌else◌}
use Rattle.counting.specs.Count.{sum_below, total}
use Rattle.counting.proofs.Gathers.{each-total}
use Rattle.counting.proofs.Tests.{clash}
use Rattle.names.specs.Top.{is_royal}
use Rattle.seating.specs.declared.Table.{Table}
use Rattle.round.specs.declared.Round.{Round}
use Rattle.round.specs.Order.{is_finished}
use Rattle.led.specs.Led.{Led}
use Rattle.amounts.specs.Base.{base_wager, hand_of, pooled, win, wins}
use Rattle.counting.proofs.Tallies.{sum_times, sum-two, total-sum}
use Rattle.results.specs.Results.{maximum, pool, seat_wagers, results}
use Rattle.results.proofs.Places.{win_at_lem, win-none, share_most, base-pooled, base_at_lem}
use Rattle.pooling.proofs.Pooled.{is_royal_or, pooled-top, win-most, few, one_royal}
use Rattle.pooling.proofs.Shared.{wins-long, shared, shares_within}
use Rattle.demands.specs.Floor.{other_win, floor_of, paid_of, Demand3}

-- a smaller pool gives no smaller part
part : (most w pool other : ℕ) → 0 < pool → pool ≤ w + other → most * w / (w + other) ≤ most * w / pool
part most w pool other h k =
    (le-div_iff_mul-le h).1 (le_trans (mul-le-mul_left (most * w / (w + other)) k) (div-mul-le_self (most * w) (w + other)))

-- ---- what is paid is 100 times the share

module _ (r : Round) where
  pooled_at : (k : ℕ) → k < 7 → pooled r k ≡ true → get_or (results r) (seat_wagers * k) 0 ≡ 100 * (base_wager r k + get_or (pool r).shares k 0)
  pooled_at k h p = base_at_lem r k h ∙ base-pooled r k p

  paid_at : (k : ℕ) → k < 7 → paid_of r (results r) k ≡ 100 * get_or (pool r).shares k 0
  unfolding paid_of
  paid_at k h = go (pooled r k) refl
    where
      go : (p : Bool) → pooled r k ≡ p → paid_of r (results r) k ≡ 100 * get_or (pool r).shares k 0
      go true p = simp (p, pooled_at k h p) (omega arith)
      go false p = simp p (omega (arith, share_most r k h, win-none r k p))

  -- the pool as paid is what the seats are paid of it
  pub pool_paid : Led r → sum_below 7 (paid_of r (results r)) ≡ 100 * total (pool r).shares
  pool_paid l =
      let long = (shared r l).long ∙ wins-long r in
      rw (total-sum (pool r).shares 7 long) (sum_times 100 7 (paid_of r (results r)) (λ k. get_or (pool r).shares k 0) paid_at)

-- the pool is the sum of the full wins
pool_full : (r : Round) → total (wins r) ≡ sum_below 7 (win r)
unfolding wins
pool_full r = each-total (win r) 7

-- ---- the floor

-- with a royal flush here there is none there
beside : (t : Table) (here there : Bool) (w : ℕ) → (here ≡ true → there ≡ false) → w ≤ (if there then 5000 * t.largest else 1000 * t.largest)
    → w ≤ other_win t here
beside t true true w one most = clash true refl (one refl)
beside t true false w one most = most
beside t false true w one most = most
beside t false false w one most = omega arith

module _ (r : Round) (l : Led r) (e : is_finished r ≡ true) where
  module _ (k : ℕ) (h : k < 7) (p : pooled r k ≡ true) where
    abbrev royal : Bool
    royal = is_royal (hand_of r k)

    -- the other win in the pool
    other : (i : ℕ) → i < 7 → pooled r i ≡ true → (i ≡ k → ⊥) → win r i ≤ other_win r.table royal
    other i m q d = beside r.table royal (is_royal (hand_of r i)) (win r i) (one_royal r l e k i (λ z. d (sym z)) h m p q) (win-most r l i m)

    pool-most : total (wins r) ≤ win r k + other_win r.table royal
    pool-most = rw (pool_full r) (sum-two (pooled r) (win r) (other_win r.table royal) k 7 h (few r l e) p (win-none r) other)

    share_least : floor_of r.table royal (win r k) ≤ get_or (pool r).shares k 0
    unfolding floor_of
    share_least = go (leb (total (wins r)) (maximum r.table)) refl
      where
        go : (full : Bool) → leb (total (wins r)) (maximum r.table) ≡ full → floor_of r.table royal (win r k) ≤ get_or (pool r).shares k 0
        go true x = rw ((shared r l).in_full (leb-true _ _ x), win_at_lem r k h) (omega arith)
        go false x =
            let cut : maximum r.table < total (wins r) = leb-false _ _ x in
            let least : maximum r.table * win r k / total (wins r) ≤ get_or (pool r).shares k 0 = rw (win_at_lem r k h) at ((shared r l).least cut k) in
            omega (arith, part (maximum r.table) (win r k) (total (wins r)) (other_win r.table royal) (omega arith) pool-most)

  pub demand_3 : Demand3 r (results r)
  demand_3 =
      record {
        few = omega (arith, few r l e);
        top = λ k h p. is_royal_or (hand_of r k) (pooled-top r l k h p);
        together = omega (arith, pool_paid r l, shares_within r l);
        exactly = λ over. let all = (shared r l).exactly (rw (pool_full r) over) in omega (arith, pool_paid r l);
        no_more = λ k h p. omega (arith, paid_at r k h, share_most r k h);
        wager_back = λ k h p. omega (arith, pooled_at r k h p);
        floor = λ k h p. omega (arith, paid_at r k h, share_least k h p);
      }
