-- No All-Six win goes into the pool, whatever its odds: it is handed back in full besides.
-- Assumes nothing.
use Prim.Native.Nat.{ℕ, ◌+◌, ◌*◌, ◌<◌}
use mathlib.Core.Path.{◌≡◌, ap}
use mathlib.Core.List.{List, [], ◌∷◌}
use native.Mathlib.Omega.{arith}
use lib.Dec.{eqb}
use lib.ListN.{get_or}
use Rattle.counting.proofs.Gathers.{gather_same}
use Rattle.round.specs.declared.Round.{Round}
use Rattle.holding.specs.Deal.{dealers_first, community_at, hole, community, five}
use Rattle.pool.specs.Pool.{pool_of}
use Rattle.pays.specs.Amounts.{handed_back}
use Rattle.amounts.specs.Base.{base_wager, hand_of, base_pay_of, pooled, win, kept, wins}
use Rattle.amounts.specs.Sides.{six_pay_of, six_amount}
use Rattle.results.specs.Results.{maximum, pool, base_amount, seat_wagers, seat_amounts, results}
use Rattle.results.proofs.Places.{amount_at}

-- the round with another All-Six pay table and other wagers on it
unfoldable pub with_six : Round → ℕ → List ℕ → Round
with_six r t w =
    record {
      table = record {
        smallest = r.table.smallest;
        largest = r.table.largest;
        base = r.table.base;
        lo = r.table.lo;
        board = r.table.board;
        pocket = r.table.pocket;
        six = t;
      };
      wagers = record { antes = r.wagers.antes; board = r.wagers.board; pocket = r.wagers.pocket; lo = r.wagers.lo; six = w };
      deck = r.deck;
      play = r.play;
    }

-- Of All-Six the pool and the base amounts depend on nothing but whether it is offered, since that changes the deal.
module _ (r : Round) (t : ℕ) (w : List ℕ) (e : eqb t 0 ≡ eqb r.table.six 0) where
  same_pay : (k : ℕ) → base_pay_of (with_six r t w) k ≡ base_pay_of r k
  unfolding with_six base_pay_of hand_of five hole community dealers_first community_at
  same_pay k = rw e

  same_win : (k : ℕ) → win (with_six r t w) k ≡ win r k
  unfolding win pooled with_six base_wager
  same_win k = rw (same_pay k)

  same_kept : (k : ℕ) → kept (with_six r t w) k ≡ kept r k
  unfolding kept pooled with_six base_wager
  same_kept k = rw (same_pay k)

  pub six_unpooled : pool (with_six r t w) ≡ pool r
  unfolding pool wins with_six
  six_unpooled =
      ap (λ (l : List ℕ). pool_of l (maximum r.table))
      (gather_same 7 (λ k. win (with_six r t w) k ∷ []) (λ k. win r k ∷ []) (λ k h. ap (λ (n : ℕ). n ∷ []) (same_win k)))

  pub six-apart : (k : ℕ) → base_amount (with_six r t w) k ≡ base_amount r k
  unfolding base_amount
  six-apart k = rw (same_kept k, six_unpooled)

-- It hands back what its pay table says, whatever the maximum.
pub six_in_full : (r : Round) (k : ℕ) → k < 7 → get_or (results r) (seat_wagers * k + 4) 0 ≡ handed_back (six_pay_of r k) (get_or r.wagers.six k 0)
unfolding seat_amounts six_amount
six_in_full r k h = amount_at r k 4 h (omega arith)
