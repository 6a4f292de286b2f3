-- Shares rounded down, and the fractions that this leaves: together they come to the maximum, so that no more dollars are left than
-- there are wins with a fraction.
-- Assumes nothing.
use Prim.Native.Nat.{ℕ, ◌+◌, ◌*◌, ◌≤◌, ◌<◌}
use mathlib.Core.Path.{◌≡◌, refl, sym, ap, ◌∙◌}
use mathlib.Core.Bool.{Bool, true, false}
use mathlib.Core.List.{List, [], ◌∷◌, map}
use native.Mathlib.Nat.{add-mul, mul-add, mul_comm, mul-le-mul_right, le_of_mul-le-mul_right, lt_of_mul-lt-mul_right, div-add-mod', div-le_of_le-mul, mod-lt}
use native.Mathlib.Omega.{arith}
use lib.Dec.{ltb}
use lib.ListN.{length, get_or, get_or-map}
use borrow.Author.Tests.{ltb-false}
use Rattle.counting.specs.Choose.{one}
use Rattle.counting.specs.Count.{tally, count, total}
use Rattle.counting.proofs.Tallies.{tally-count}
use Rattle.pool.specs.Pool.{rounded_down, fraction, fraction_at, dollars_left}

module _ (maximum pool : ℕ) where
  -- ---- one win

  pub rounded_most : (win : ℕ) → maximum < pool → rounded_down maximum pool win ≤ win
  rounded_most win h = div-le_of_le-mul pool (mul-le-mul_right win (omega arith))

  -- a share with a fraction is below its win
  pub rounded_below : (win : ℕ) → maximum < pool → 0 < fraction maximum pool win → rounded_down maximum pool win < win
  rounded_below win h part =
      let whole : maximum * win ≤ pool * win = mul-le-mul_right win (omega arith) in
      lt_of_mul-lt-mul_right pool (omega (arith, div-add-mod' (maximum * win) pool, mul_comm pool win))

  pub no_fraction : fraction maximum pool 0 ≡ 0
  no_fraction = omega (arith, div-add-mod' (maximum * 0) pool)

  -- at any place: past the end there is no win
  pub rounded_at_lem : (wins : List ℕ) (k : ℕ) → maximum < pool → get_or (map (rounded_down maximum pool) wins) k 0 ≡ rounded_down maximum pool (get_or wins k 0)
  rounded_at_lem wins k h =
      let none : rounded_down maximum pool 0 ≡ 0 = omega (arith, rounded_most 0 h) in
      rw none at (get_or-map (rounded_down maximum pool) wins k 0)

  -- ---- all

  parts : (wins : List ℕ) → total (map (fraction maximum pool) wins) + total (map (rounded_down maximum pool) wins) * pool ≡ maximum * total wins
  unfolding total
  parts [] = omega arith
  parts (win ∷ wins) =
      rw (add-mul (rounded_down maximum pool win) (total (map (rounded_down maximum pool) wins)) pool, mul-add maximum win (total wins))
      (omega (arith, parts wins, div-add-mod' (maximum * win) pool))

  some_part : (win : ℕ) → 0 < pool → fraction maximum pool win ≤ one (ltb 0 (fraction maximum pool win)) * pool
  some_part win h = go (ltb 0 (fraction maximum pool win)) refl
    where
      go : (some : Bool) → ltb 0 (fraction maximum pool win) ≡ some → fraction maximum pool win ≤ one some * pool
      go true e = omega (arith, mod-lt (maximum * win) h)
      go false e = omega (arith, ltb-false 0 (fraction maximum pool win) e)

  fractions_most : (wins : List ℕ) → 0 < pool → total (map (fraction maximum pool) wins) ≤ count (λ win. ltb 0 (fraction maximum pool win)) wins * pool
  unfolding total count
  fractions_most [] h = omega arith
  fractions_most (win ∷ wins) h =
      rw (add-mul (one (ltb 0 (fraction maximum pool win))) (count (λ other. ltb 0 (fraction maximum pool other)) wins) pool)
      (omega (arith, some_part win h, fractions_most wins h))

module _ (maximum : ℕ) (wins : List ℕ) (over : maximum < total wins) where
  -- rounded down they are within the maximum, and the dollars left are what is missing
  pub rounded_within : total (map (rounded_down maximum (total wins)) wins) + dollars_left maximum wins ≡ maximum
  unfolding dollars_left
  rounded_within =
      let least : total (map (rounded_down maximum (total wins)) wins) ≤ maximum =
      le_of_mul-le-mul_right {k = total wins} (omega (arith, parts maximum (total wins) wins)) (omega arith) in
      omega arith

  -- no more dollars are left than there are wins with a fraction
  pub few_left : dollars_left maximum wins ≤ tally (length wins) (λ k. ltb 0 (fraction_at maximum wins k))
  few_left =
      let pool = total wins in
      let rounded = total (map (rounded_down maximum pool) wins) in
      let all : rounded * pool + dollars_left maximum wins * pool ≡ maximum * pool =
      sym (add-mul rounded (dollars_left maximum wins) pool) ∙ ap (λ (n : ℕ). n * pool) rounded_within in
      rw (tally-count (λ win. ltb 0 (fraction maximum pool win)) wins)
      (le_of_mul-le-mul_right {k = pool} (omega (arith, all, parts maximum pool wins, fractions_most maximum pool wins (omega arith))) (omega arith))
