-- Numbers below n in a strict order: as many as are asked for have fewer than that many before them.
-- Assumes nothing.
use Prim.Native.Nat.{ℕ, zero, suc, ◌+◌, ◌-◌, ◌≤◌, ◌<◌}
use mathlib.Core.Path.{◌≡◌, refl, sym, ap, ◌∙◌}
use mathlib.Core.Bool.{Bool, true, false}
use native.Mathlib.Omega.{arith}
use lib.Dec.{eqb, leb, ltb}
use borrow.Author.Tests.{eqb-true, eqb-false, leb-true, leb-false, lt-ltb, le-ltb, ltb-true, ltb-false}
use Rattle.counting.specs.Choose.{one}
use Rattle.counting.specs.Count.{tally}
use Rattle.counting.proofs.Ranges.{tally_le}
use Rattle.counting.proofs.Sums.{squeezed, sum_le, tally-sum}
use Rattle.counting.proofs.Tallies.{tally_more}

-- ---- two tests

one_weaker : (a b : Bool) → (a ≡ true → b ≡ true) → one a ≤ one b
one_weaker true b w = omega (arith, ap one (w refl))
one_weaker false b w = omega arith

module _ (n : ℕ) (f g : ℕ → Bool) (weaker : (k : ℕ) → k < n → f k ≡ true → g k ≡ true) where
  pub tally_weaker : tally n f ≤ tally n g
  tally_weaker = rw (tally-sum n f, tally-sum n g) (sum_le n _ _ (λ k h. one_weaker (f k) (g k) (weaker k h)))

  -- and not by the same numbers
  pub tally_less : (k : ℕ) → k < n → f k ≡ false → g k ≡ true → tally n f < tally n g
  tally_less k h out here = go (leb (tally n g) (tally n f)) refl
    where
      go : (b : Bool) → leb (tally n g) (tally n f) ≡ b → tally n f < tally n g
      go true e =
          let most = rw (tally-sum n f, tally-sum n g) at (leb-true (tally n g) (tally n f) e) in
          let same = squeezed n (λ i. one (f i)) (λ i. one (g i)) (λ i l. one_weaker (f i) (g i) (weaker i l)) most k h in
          absurd (omega (arith, same, ap one out, ap one here))
      go false e = leb-false (tally n g) (tally n f) e

pub tally_every : (n : ℕ) (f : ℕ → Bool) → ((k : ℕ) → k < n → f k ≡ true) → tally n f ≡ n
unfolding tally
tally_every zero f h = refl
tally_every (suc n) f h = omega (arith, ap one (h n (omega arith)), tally_every n f (λ k l. h k (omega arith)))

pub tally_nobody : (n : ℕ) (f : ℕ → Bool) → ((k : ℕ) → k < n → f k ≡ false) → tally n f ≡ 0
unfolding tally
tally_nobody zero f h = refl
tally_nobody (suc n) f h = omega (arith, ap one (h n (omega arith)), tally_nobody n f (λ k l. h k (omega arith)))

-- one passes exactly where one of two others does, and never both
pub tally_parts : (n : ℕ) (f g h : ℕ → Bool) → ((k : ℕ) → k < n → one (f k) ≡ one (g k) + one (h k)) → tally n f ≡ tally n g + tally n h
unfolding tally
tally_parts zero f g h e = refl
tally_parts (suc n) f g h e = omega (arith, e n (omega arith), tally_parts n f g h (λ k l. e k (omega arith)))

-- ---- how many stand before each

one_up : (x d : ℕ) → one (ltb x (suc d)) ≡ one (ltb x d) + one (eqb x d)
one_up x d = go (ltb x d) (eqb x d) refl refl
  where
    go : (a b : Bool) → ltb x d ≡ a → eqb x d ≡ b → one (ltb x (suc d)) ≡ one a + one b
    go true true p q = absurd (omega (arith, ltb-true x d p, eqb-true x d q))
    go true false p q = let l = ltb-true x d p in ap one (lt-ltb x (suc d) (omega arith))
    go false true p q = let e = eqb-true x d q in ap one (lt-ltb x (suc d) (omega arith))
    go false false p q =
        let l = ltb-false x d p in
        let e : (x ≡ d → ⊥) = eqb-false x d q in
        ap one (le-ltb x (suc d) (omega arith))

module _ (n : ℕ) (before : ℕ → ℕ → Bool)
    (never : (k : ℕ) → before k k ≡ false)
    (onwards : (i j k : ℕ) → before i j ≡ true → before j k ≡ true → before i k ≡ true)
    (either : (j k : ℕ) → (j ≡ k → ⊥) → before j k ≡ false → before k j ≡ true) where
  abbrev rank : ℕ → ℕ
  rank k = tally n (λ j. before j k)

  pub rank_less : (j k : ℕ) → j < n → before j k ≡ true → rank j < rank k
  rank_less j k h b = tally_less n (λ i. before i j) (λ i. before i k) (λ i l e. onwards i j k e b) j h (never j) b

  rank_below : (k : ℕ) → k < n → rank k < n
  rank_below k h =
      omega (arith, tally_less n (λ j. before j k) (λ j. true) (λ j l e. refl) k h (never k) refl, tally_le n (λ j. true))

  -- no two have the same number before them
  apart : (j k : ℕ) → j < k → k < n → rank j ≡ rank k → ⊥
  apart j k l h e = go (before j k) refl
    where
      go : (b : Bool) → before j k ≡ b → ⊥
      go true p = omega (arith, rank_less j k (omega arith) p)
      go false p = omega (arith, rank_less k j h (either j k (λ z. omega arith) p))

  alone : (d : ℕ) → tally n (λ k. eqb (rank k) d) ≤ 1
  alone d = go (leb (tally n (λ k. eqb (rank k) d)) 1) refl
    where
      go : (b : Bool) → leb (tally n (λ k. eqb (rank k) d)) 1 ≡ b → tally n (λ k. eqb (rank k) d) ≤ 1
      go true e = leb-true _ _ e
      go false e =
          let second = tally_more (λ k. eqb (rank k) d) n 1 (leb-false _ _ e) in
          let first = tally_more (λ k. eqb (rank k) d) second.0 0 second.3 in
          absurd (apart first.0 second.0 first.1 second.1 (eqb-true _ _ first.2 ∙ sym (eqb-true _ _ second.2)))

  abbrev firsts : ℕ → ℕ
  firsts d = tally n (λ k. ltb (rank k) d)

  one_more : (d : ℕ) → firsts (suc d) ≤ firsts d + 1
  one_more d =
      omega (arith, tally_parts n (λ k. ltb (rank k) (suc d)) (λ k. ltb (rank k) d) (λ k. eqb (rank k) d) (λ k h. one_up (rank k) d), alone d)

  at_most_lem : (d : ℕ) → firsts d ≤ d
  at_most_lem zero = omega (arith, tally_nobody n (λ k. ltb (rank k) 0) (λ k h. le-ltb (rank k) 0 (omega arith)))
  at_most_lem (suc d) = omega (arith, one_more d, at_most_lem d)

  some_more : (d e : ℕ) → firsts (e + d) ≤ e + firsts d
  some_more d zero = let same : 0 + d ≡ d = omega arith in rw same (omega arith)
  some_more d (suc e) =
      let next : suc e + d ≡ suc (e + d) = omega arith in
      rw next (omega (arith, one_more (e + d), some_more d e))

  all_below : firsts n ≡ n
  all_below = tally_every n (λ k. ltb (rank k) n) (λ k h. lt-ltb (rank k) n (rank_below k h))

  -- d of them have fewer than d before them
  pub first_many : (d : ℕ) → d ≤ n → tally n (λ k. ltb (tally n (λ j. before j k)) d) ≡ d
  first_many d h =
      let e : (n - d) + d ≡ n = omega arith in
      let all : firsts n ≤ (n - d) + firsts d = rw e at (some_more d (n - d)) in
      omega (arith, at_most_lem d, all_below)
