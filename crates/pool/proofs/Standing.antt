-- Who stands before whom: an order in which no two places are level; and the numbers by which the code compares.
-- Assumes nothing.
use Prim.Native.Nat.{ℕ, ◌+◌, ◌-◌, ◌≤◌, ◌<◌}
use mathlib.Core.Path.{◌≡◌, refl, sym, ◌∙◌}
use mathlib.Core.Bool.{Bool, true, false, ◌&&◌, ◌||◌}
use mathlib.Core.List.{List}
use native.Mathlib.Omega.{arith}
use lib.Dec.{eqb, ltb}
use lib.ListN.{length, get_or, set, replicate, length-set}
use lib.Seq.{ext_get_or, get_or-set_same, get_or-set_other}
use borrow.Author.Tests.{lt-ltb, le-ltb, ltb-true, ltb-false, eq-eqb, eqb-true, eqb-false}
use Rattle.counting.specs.Count.{above, total, gather}
use Rattle.counting.proofs.Tests.{clash, same_true}
use Rattle.counting.proofs.Ranges.{tally_same}
use Rattle.counting.proofs.Tallies.{tally-cut}
use Rattle.counting.proofs.Gathers.{each-length, each_at}
use Rattle.pool.specs.Pool.{fraction, fraction_at, stands_before, ahead}
use Rattle.pool.specs.Standings.{standing, standing_at, standings}

module _ (f : ℕ → ℕ) where
  -- the larger number first, of equal ones the earlier place
  abbrev pub first : ℕ → ℕ → Bool
  first j k = ltb (f k) (f j) || (eqb (f k) (f j) && ltb j k)

  pub larger_first : (j k : ℕ) → f k < f j → first j k ≡ true
  larger_first j k h = simp (lt-ltb _ _ h)

  pub earlier-first : (j k : ℕ) → f k ≡ f j → j < k → first j k ≡ true
  earlier-first j k e h = simp (le-ltb (f k) (f j) (omega arith), eq-eqb _ _ e, lt-ltb _ _ h)

  by_first : {A : Type 0} (j k : ℕ) → first j k ≡ true → (f k < f j → A) → (f k ≡ f j → j < k → A) → A
  by_first {A} j k e larger earlier = go (ltb (f k) (f j)) (eqb (f k) (f j)) (ltb j k) refl refl refl
    where
      go : (a b c : Bool) → ltb (f k) (f j) ≡ a → eqb (f k) (f j) ≡ b → ltb j k ≡ c → A
      go true b c p q r = larger (ltb-true _ _ p)
      go false true true p q r = earlier (eqb-true _ _ q) (ltb-true _ _ r)
      go false true false p q r = clash (first j k) e (simp (p, q, r))
      go false false c p q r = clash (first j k) e (simp (p, q))

  pub never : (k : ℕ) → first k k ≡ false
  never k = simp (le-ltb (f k) (f k) (omega arith), eq-eqb (f k) (f k) refl, le-ltb k k (omega arith))

  pub onwards : (i j k : ℕ) → first i j ≡ true → first j k ≡ true → first i k ≡ true
  onwards i j k p q =
      by_first i j p
      (λ a. by_first j k q (λ b. larger_first i k (omega arith)) (λ b l. larger_first i k (omega arith)))
      (λ a h. by_first j k q (λ b. larger_first i k (omega arith)) (λ b l. earlier-first i k (omega arith) (omega arith)))

  pub either : (j k : ℕ) → (j ≡ k → ⊥) → first j k ≡ false → first k j ≡ true
  either j k d e = go (ltb (f j) (f k)) (ltb (f k) (f j)) (ltb j k) refl refl refl
    where
      go : (a b c : Bool) → ltb (f j) (f k) ≡ a → ltb (f k) (f j) ≡ b → ltb j k ≡ c → first k j ≡ true
      go true b c p q r = larger_first k j (ltb-true _ _ p)
      go false true c p q r = clash (first j k) (larger_first j k (ltb-true _ _ q)) e
      go false false true p q r =
          let same : f k ≡ f j = omega (arith, ltb-false (f j) (f k) p, ltb-false (f k) (f j) q) in
          clash (first j k) (earlier-first j k same (ltb-true _ _ r)) e
      go false false false p q r =
          let same : f j ≡ f k = omega (arith, ltb-false (f j) (f k) p, ltb-false (f k) (f j) q) in
          earlier-first k j same (omega (arith, ltb-false j k r, d))

  -- ---- the same by one number, of places below seven

  numbered : (j k : ℕ) → j < 7 → k < 7 → ltb (standing (f k) k) (standing (f j) j) ≡ first j k
  numbered j k p q =
      same_true (ltb (standing (f k) k) (standing (f j) j)) (first j k)
      (λ e. told (ltb-true _ _ e) (ltb (f k) (f j)) refl)
      (λ e. by_first j k e (λ h. lt-ltb (standing (f k) k) (standing (f j) j) (omega arith)) (λ a h. lt-ltb (standing (f k) k) (standing (f j) j) (omega arith)))
    where
      told : standing (f k) k < standing (f j) j → (b : Bool) → ltb (f k) (f j) ≡ b → first j k ≡ true
      told h true e = larger_first j k (ltb-true _ _ e)
      told h false e = let l = ltb-false (f k) (f j) e in earlier-first j k (omega arith) (omega arith)

-- ---- the standings of the first i wins

module _ (maximum pool : ℕ) (wins : List ℕ) where
  pub standings-none : replicate 7 0 ≡ standings maximum pool wins 0
  unfolding standings standing_at gather
  standings-none = refl

  pub standing_in : (i k : ℕ) → k < i → k < 7 → get_or (standings maximum pool wins i) k 0 ≡ standing (fraction maximum pool (get_or wins k 0)) k
  unfolding standings standing_at
  standing_in i k h s = each_at (standing_at maximum pool wins i) 7 k s ∙ simp (lt-ltb k i h)

  standing_out : (i k : ℕ) → i ≤ k → k < 7 → get_or (standings maximum pool wins i) k 0 ≡ 0
  unfolding standings standing_at
  standing_out i k h s = each_at (standing_at maximum pool wins i) 7 k s ∙ simp (le-ltb k i h)

  pub standings-long : (i : ℕ) → length (standings maximum pool wins i) ≡ 7
  unfolding standings
  standings-long i = each-length (standing_at maximum pool wins i) 7

  pub standings_more : (i v : ℕ) → i < 7 → v ≡ standing (fraction maximum pool (get_or wins i 0)) i
      → set (standings maximum pool wins i) i v ≡ standings maximum pool wins (i + 1)
  standings_more i v h e =
      ext_get_or 0 _ _ (length-set (standings maximum pool wins i) i v ∙ standings-long i ∙ sym (standings-long (i + 1))) λ k l.
      let s : k < 7 = omega (arith, length-set (standings maximum pool wins i) i v, standings-long i) in
      go k s (eqb k i) (ltb k i) refl refl
    where
      go : (k : ℕ) → k < 7 → (a b : Bool) → eqb k i ≡ a → ltb k i ≡ b → get_or (set (standings maximum pool wins i) i v) k 0 ≡ get_or (standings maximum pool wins (i + 1)) k 0
      go k s true b p q =
          let same : k ≡ i = eqb-true k i p in
          rw same
          (get_or-set_same (standings maximum pool wins i) i v 0 (omega (arith, standings-long i)) ∙ e ∙ sym (standing_in (i + 1) i (omega arith) h))
      go k s false true p q =
          let l = ltb-true k i q in
          get_or-set_other (standings maximum pool wins i) i k v 0 (eqb-false k i p)
          ∙ standing_in i k l s ∙ sym (standing_in (i + 1) k (omega arith) s)
      go k s false false p q =
          let l = ltb-false k i q in
          let d : (k ≡ i → ⊥) = eqb-false k i p in
          get_or-set_other (standings maximum pool wins i) i k v 0 d
          ∙ standing_out i k l s ∙ sym (standing_out (i + 1) k (omega arith) s)

-- ---- the shares by them

module _ (maximum : ℕ) (wins : List ℕ) (few : length wins ≤ 7) where
  abbrev all : List ℕ
  all = standings maximum (total wins) wins (length wins)

  pub above-ahead : (k : ℕ) → k < length wins → above all (get_or all k 0) ≡ ahead maximum wins k
  unfolding above ahead
  above-ahead k h =
      let seven : (7 - length wins) + length wins ≡ 7 = omega arith in
      let own = standing_in maximum (total wins) wins (length wins) k h (omega arith) in
      let larger : ℕ → Bool = λ j. ltb (get_or all k 0) (get_or all j 0) in
      rw (standings-long maximum (total wins) wins (length wins), ← seven)
      (tally-cut (length wins) (7 - length wins) larger
      (λ j p q. rw (standing_out maximum (total wins) wins (length wins) j p (omega arith)) (le-ltb (get_or all k 0) 0 (omega arith)))
      ∙ tally_same (length wins) larger (λ j. stands_before maximum wins j k) (λ j l.
      rw (own, standing_in maximum (total wins) wins (length wins) j l (omega arith)) (numbered (fraction_at maximum wins) j k (omega arith) (omega arith))))
