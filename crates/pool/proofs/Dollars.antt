-- The shares of a pool that exceeds the maximum are those that the code gives, by the standings.
-- Assumes nothing.
use Prim.Native.Nat.{ℕ, ◌≤◌, ◌<◌}
use mathlib.Core.Path.{◌≡◌, refl, sym}
use mathlib.Core.Bool.{Bool, true, false, ◌&&◌}
use mathlib.Core.List.{List, map}
use native.Mathlib.Omega.{arith}
use lib.Dec.{leb, ltb}
use lib.ListN.{length, get_or, length-map}
use borrow.Author.Tests.{lt-leb, leb-false}
use Rattle.counting.specs.Count.{total}
use Rattle.counting.proofs.Tests.{is_false}
use Rattle.counting.proofs.Gathers.{gather_same}
use Rattle.pool.specs.Pool.{rounded_down, fraction_at, ahead, gets_one, dollars_left, share_of, shares_of}
use Rattle.pool.specs.Standings.{standing, standings, gets_dollar, given}
use Rattle.pool.proofs.Rounded.{rounded_at_lem}
use Rattle.pool.proofs.Standing.{standing_in, above-ahead}
use Rattle.pool.proofs.Shares.{of_some}

module _ (maximum : ℕ) (wins : List ℕ) (few : length wins ≤ 7) (over : maximum < total wins) where
  abbrev all : List ℕ
  all = standings maximum (total wins) wins (length wins)

  same_dollar : (k : ℕ) → k < length wins → gets_dollar (dollars_left maximum wins) all (get_or all k 0) ≡ gets_one maximum wins k
  unfolding gets_dollar gets_one
  same_dollar k h =
      let own : get_or all k 0 ≡ standing (fraction_at maximum wins k) k = standing_in maximum (total wins) wins (length wins) k h (omega arith) in
      rw (above-ahead maximum wins few k h) (go own (leb 8 (get_or all k 0)) refl)
    where
      go : get_or all k 0 ≡ standing (fraction_at maximum wins k) k → (b : Bool) → leb 8 (get_or all k 0) ≡ b
          → (b && ltb (ahead maximum wins k) (dollars_left maximum wins)) ≡ ltb (ahead maximum wins k) (dollars_left maximum wins)
      go own true e = refl
      go own false e =
          let low = leb-false 8 (get_or all k 0) e in
          sym (is_false _ (λ g. omega (arith, of_some maximum wins over k g)))

  pub cut-shares : given (dollars_left maximum wins) all (map (rounded_down maximum (total wins)) wins) ≡ shares_of maximum wins
  unfolding given shares_of share_of
  cut-shares =
      let rounded = map (rounded_down maximum (total wins)) wins in
      let long : length rounded ≡ length wins = length-map wins (rounded_down maximum (total wins)) in
      rw long
      (gather_same (length wins) _ _ (λ k h.
      rw (rounded_at_lem maximum (total wins) wins k over, same_dollar k h, lt-leb (total wins) maximum over)))
