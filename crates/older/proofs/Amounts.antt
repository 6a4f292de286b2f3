-- The deal and the amounts of a round in which All-Six isn't offered are what they were, and nothing is handed back on All-Six.
-- Assumes nothing.
use Prim.Native.Nat.{ℕ, ◌+◌, ◌*◌}
use mathlib.Core.Path.{◌≡◌, ap}
use mathlib.Core.List.{List, [], ◌∷◌}
use native.Mathlib.Omega.{arith}
use Rattle.counting.specs.Count.{gather}
use Rattle.counting.proofs.Gathers.{gather_same}
use Rattle.round.specs.declared.Round.{Round}
use Rattle.holding.specs.Deal.{playing_before, dealers_first, community_at, hole, community, five}
use Rattle.odds.specs.Pays.{pay_in, six_pay}
use Rattle.pool.specs.Pool.{pool_of}
use Rattle.amounts.specs.Base.{hand_of, base_pay_of, pooled, win, kept, wins}
use Rattle.amounts.specs.Sides.{board_pay_of, pocket_pay_of, lo_pay_of, six_pay_of, board_amount, pocket_amount, lo_amount, six_amount}
use Rattle.results.specs.Results.{maximum, pool, base_amount, seat_amounts, results}
use Rattle.older.specs.Amounts.{old_hole, old_community, old_five, old_base_pay, old_pooled, old_win, old_kept, old_pool, old_amounts, old_results, widened}

module _ (r : Round) (none : r.table.six ≡ 0) where
  -- ---- the deal

  same_hole : (k : ℕ) → hole r.table.six r.wagers.antes r.deck.cards k ≡ old_hole r k
  unfolding hole dealers_first old_hole
  same_hole k = let e : 0 + 2 * playing_before r.wagers.antes k ≡ 2 * playing_before r.wagers.antes k = omega arith in rw (none, e)

  same_community : community r.table.six r.wagers.antes r.deck.cards ≡ old_community r
  unfolding community community_at old_community
  same_community = rw none

  same_five : (k : ℕ) → five r.table.six r.wagers.antes r.deck.cards k ≡ old_five r k
  unfolding five
  same_five k = rw (same_community, same_hole k)

  -- ---- the base wager and the pool

  same_pay : (k : ℕ) → base_pay_of r k ≡ old_base_pay r k
  unfolding base_pay_of hand_of old_base_pay
  same_pay k = rw (same_five k)

  same_win : (k : ℕ) → win r k ≡ old_win r k
  unfolding win pooled old_win old_pooled
  same_win k = rw (same_pay k)

  same_kept : (k : ℕ) → kept r k ≡ old_kept r k
  unfolding kept pooled old_kept old_pooled
  same_kept k = rw (same_pay k)

  pub same_pool : pool r ≡ old_pool r
  unfolding pool wins old_pool
  same_pool =
      ap (λ (l : List ℕ). pool_of l (maximum r.table))
      (gather_same 7 (λ k. win r k ∷ []) (λ k. old_win r k ∷ []) (λ k h. ap (λ (n : ℕ). n ∷ []) (same_win k)))

  -- ---- the results list

  no_six : (k : ℕ) → six_amount r k ≡ 0
  unfolding six_amount six_pay_of six_pay pay_in
  no_six k = rw none

  same_amounts : (k : ℕ) → seat_amounts r k ≡ widened (old_amounts r k)
  unfolding seat_amounts base_amount board_amount pocket_amount lo_amount board_pay_of pocket_pay_of lo_pay_of old_amounts widened
  same_amounts k = rw (same_kept k, same_pool, same_community, same_hole k, same_five k, no_six k)

  pub same_results : results r ≡ widened (old_results r)
  unfolding results old_results old_amounts widened gather
  same_results = gather_same 7 (seat_amounts r) (λ k. widened (old_amounts r k)) (λ k h. same_amounts k)
