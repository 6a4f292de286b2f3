-- A results list that is filled seat by seat.
-- Assumes nothing.
use Prim.Native.Nat.{ℕ, ◌+◌, ◌*◌, ◌≤◌, ◌<◌}
use mathlib.Core.Path.{◌≡◌, refl}
use mathlib.Core.List.{List}
use native.Mathlib.Omega.{arith}
use lib.ListN.{length, get_or, set}
use Rattle.counting.proofs.Fills.{Filled, rows_none, row_more, rows_all}
use Rattle.round.specs.declared.Round.{Round}
use Rattle.amounts.specs.Sides.{board_amount, pocket_amount, lo_amount, six_amount}
use Rattle.results.specs.declared.Amounts.{Amounts}
use Rattle.results.specs.Results.{base_amount, seat_wagers, seat_amounts, results_long, results, amounts_of}
use Rattle.results.proofs.Places.{seat_long}

-- a list with the amounts of the seat at place k
abbrev with_seat : List ℕ → ℕ → Amounts → List ℕ
with_seat l k a =
    set
    (set (set (set (set l (seat_wagers * k) a.base) (seat_wagers * k + 1) a.board) (seat_wagers * k + 2) a.pocket) (seat_wagers * k + 3) a.lo)
    (seat_wagers * k + 4)
    a.six

module _ (r : Round) where
  -- the amounts of the first k seats stand there
  abbrev pub Seats : List ℕ → ℕ → Type 0
  Seats l k = Filled (results r) l (seat_wagers * k)

  pub no_seats : (l : List ℕ) → length l ≡ results_long → Seats l 0
  unfolding results
  no_seats l e = rows_none seat_wagers 7 (seat_amounts r) (seat_long r) l e

  pub all_seats : (l : List ℕ) (k : ℕ) → Seats l k → 7 ≤ k → l ≡ results r
  unfolding results
  all_seats l k s h = rows_all seat_wagers 7 (seat_amounts r) (seat_long r) l k s h

  -- amount w of the next one
  one_more : (l : List ℕ) (k w v i j : ℕ) → Filled (results r) l i → i ≡ seat_wagers * k + w → j ≡ i + 1 → k < 7 → w < seat_wagers
      → v ≡ get_or (seat_amounts r k) w 0 → Filled (results r) (set l i v) j
  unfolding results
  one_more l k w v i j s at next h m e = rw (next, at) (row_more seat_wagers 7 (seat_amounts r) (seat_long r) l k w v (rw at at s) h m e)

  -- the amounts of the next one
  pub next_seat : (l : List ℕ) (k : ℕ) (a : Amounts) → Seats l k → k < 7 → a ≡ amounts_of r k → Seats (with_seat l k a) (k + 1)
  unfolding seat_amounts
  next_seat l k a s h e =
      let i = seat_wagers * k in
      let l1 = set l i (base_amount r k) in
      let l2 = set l1 (i + 1) (board_amount r k) in
      let l3 = set l2 (i + 2) (pocket_amount r k) in
      let s1 = one_more l k 0 (base_amount r k) i (i + 1) s (omega arith) refl h (omega arith) refl in
      let s2 = one_more l1 k 1 (board_amount r k) (i + 1) (i + 2) s1 refl (omega arith) h (omega arith) refl in
      let s3 = one_more l2 k 2 (pocket_amount r k) (i + 2) (i + 3) s2 refl (omega arith) h (omega arith) refl in
      let l4 = set l3 (i + 3) (lo_amount r k) in
      let s4 = one_more l3 k 3 (lo_amount r k) (i + 3) (i + 4) s3 refl (omega arith) h (omega arith) refl in
      rw e (one_more l4 k 4 (six_amount r k) (i + 4) (seat_wagers * (k + 1)) s4 refl (omega arith) h (omega arith) refl)
