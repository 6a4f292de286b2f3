-- The ranks of a run: there are n of them, each occurs, and where there are at most n cards each occurs once and no other does.
-- Assumes nothing.
use Prim.Native.Nat.{ℕ, ◌+◌, ◌-◌, ◌≤◌, ◌<◌}
use mathlib.Core.Path.{◌≡◌, refl, ap}
use mathlib.Core.Bool.{Bool, true, false}
use native.Mathlib.Omega.{arith}
use lib.Dec.{eqb, leb}
use borrow.Author.Tests.{eqb-true, eq-eqb, leb-true}
use Rattle.std.specs.Prelude.{if◌then◌else◌}
use Rattle.counting.specs.Choose.{one}
use Rattle.counting.specs.Count.{every_below, some_below, sum_below}
use Rattle.counting.proofs.Ranges.{every_at, some_where, some_here}
use Rattle.counting.proofs.Sums.{squeezed}
use Rattle.hands.specs.Hand.{rank_on, run}

-- the rank r is one of the n of the run from number p on
unfoldable pub on_run : ℕ → ℕ → ℕ → Bool
on_run n p r = some_below n (λ i. eqb (rank_on (p + i)) r)

-- how many ranks the run has
unfoldable pub run_size : ℕ → ℕ → ℕ
run_size n p = sum_below 13 (λ r. one (on_run n p r))

-- a run of up to five has as many ranks as it is long: a test over all of them
all_sizes : every_below 6 (λ n. every_below (15 - n) (λ i. eqb (run_size n (i + 1)) n)) ≡ true
unfolding every_below sum_below some_below on_run rank_on run_size
all_sizes = refl

pub run_size_lem : (n p : ℕ) → n ≤ 5 → 1 ≤ p → p + n ≤ 15 → run_size n p ≡ n
run_size_lem n p few low top =
    let e : p - 1 + 1 ≡ p = omega arith in
    let row = every_at (λ n. every_below (15 - n) (λ i. eqb (run_size n (i + 1)) n)) 6 all_sizes n (omega arith) in
    let test : eqb (run_size n p) n ≡ true = rw e at (every_at (λ i. eqb (run_size n (i + 1)) n) (15 - n) row (p - 1) (omega arith)) in
    eqb-true (run_size n p) n test

-- the ranks of the line A 2 3 .. Q K A
pub on_the_line : (p : ℕ) → 1 ≤ p → p ≤ 14 → rank_on p < 13
unfolding rank_on
on_the_line p low top = go (eqb p 1) refl
  where
    go : (t : Bool) → eqb p 1 ≡ t → (if t then 12 else p - 2) < 13
    go true e = omega arith
    go false e = omega arith

pub occurs : (n : ℕ) (h : ℕ → ℕ) (p r : ℕ) → run n p h ≡ true → one (on_run n p r) ≤ h r
unfolding run on_run
occurs n h p r e = go (on_run n p r) refl
  where
    go : (b : Bool) → on_run n p r ≡ b → one b ≤ h r
    go true q =
        let w = some_where (λ i. eqb (rank_on (p + i)) r) n q in
        let same : rank_on (p + w.0) ≡ r = eqb-true _ _ w.2 in
        rw (← same) (leb-true 1 _ (every_at (λ i. leb 1 (h (rank_on (p + i)))) n e w.0 w.1))
    go false q = omega arith

pub on_its_run : (n p i : ℕ) → i < n → on_run n p (rank_on (p + i)) ≡ true
unfolding on_run
on_its_run n p i l = some_here (λ j. eqb (rank_on (p + j)) (rank_on (p + i))) n i l (eq-eqb (rank_on (p + i)) (rank_on (p + i)) refl)

module _ (n p : ℕ) (few : n ≤ 5) (low : 1 ≤ p) (top : p + n ≤ 15) (h : ℕ → ℕ) (cards : sum_below 13 h ≤ n) (is : run n p h ≡ true) where
  pub run_ranks : (r : ℕ) → r < 13 → one (on_run n p r) ≡ h r
  unfolding run_size
  run_ranks = squeezed 13 (λ r. one (on_run n p r)) h (λ r l. occurs n h p r is) (omega (arith, run_size_lem n p few low top))

  pub run_once : (i : ℕ) → i < n → h (rank_on (p + i)) ≡ 1
  run_once i l =
      let same = run_ranks (rank_on (p + i)) (on_the_line (p + i) (omega arith) (omega arith)) in
      omega (arith, same, ap one (on_its_run n p i l))
