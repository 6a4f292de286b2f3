-- Over the same three community cards, with hole cards that all differ, at most two seats hold a royal or a straight flush, and at
-- most one a royal. Two suited runs share the community cards' ranks and no others, so they start two numbers apart, and of three
-- numbers no two each are.
-- Assumes nothing.
use Prim.Native.Nat.{ℕ, ◌+◌, ◌-◌, ◌≤◌, ◌<◌}
use mathlib.Core.Path.{◌≡◌, refl}
use mathlib.Core.Bool.{Bool, true, false, not, ◌&&◌, ◌||◌}
use mathlib.Core.List.{List, [], ◌∷◌}
use native.Mathlib.Omega.{arith}
use lib.Dec.{eqb}
use lib.ListN.{length}
use borrow.Author.Tests.{eqb-true, eq-eqb}
use Rattle.counting.specs.Choose.{one}
use Rattle.counting.specs.Count.{count, every_below, some_below, sum_below}
use Rattle.counting.proofs.Tests.{one_le, one_true}
use Rattle.counting.proofs.Ranges.{every_at}
use Rattle.counting.proofs.Sums.{sum_add, sum_same, on_its_heap, heaps_within}
use Rattle.cards.specs.Card.{rank, suit}
use Rattle.hands.specs.Hand.{of_rank, of_suit, rank_on}
use Rattle.hands.proofs.Runs.{on_run, run_ranks}
use Rattle.names.specs.Five.{name_five}
use Rattle.names.specs.Top.{is_royal, is_top}
use Rattle.tops.specs.Run.{SuitedRun, Apart}
use Rattle.tops.proofs.Names.{royal_is, top_is}

-- ---- the ranks of a run

-- five cards that are a run have each of its ranks once, and no other
ranks : (cs : List ℕ) (u p : ℕ) → length cs ≡ 5 → SuitedRun cs u p → (r : ℕ) → r < 13 → one (on_run 5 p r) ≡ of_rank cs r
unfolding of_rank
ranks cs u p five s = run_ranks 5 p (omega arith) s.starts.0 (omega arith) (of_rank cs) (omega (arith, heaps_within rank 13 cs)) s.in_run

-- ---- two runs

apart : ℕ → ℕ → ℕ
apart p q = (p - q) + (q - p)

-- the ranks of both runs
common : ℕ → ℕ → ℕ
common p q = sum_below 13 (λ r. one (on_run 5 p r && on_run 5 q r))

-- two runs that share three ranks start two numbers apart: a test over all pairs of runs
far_off : ℕ → ℕ → Bool
far_off p q = not (eqb (common p q) 3) || eqb (apart p q) 2

two-apart : every_below 10 (λ i. every_below 10 (λ j. far_off (i + 1) (j + 1))) ≡ true
unfolding every_below sum_below some_below on_run rank_on common apart far_off
two-apart = refl

-- ---- two seats

-- all five cards are of the suit u
suits : (a b c x y u : ℕ) → of_suit (a ∷ b ∷ c ∷ x ∷ y ∷ []) u ≡ 5 → (suit a ≡ u) × (suit x ≡ u) × (suit y ≡ u)
unfolding of_suit count
suits a b c x y u e =
    let most : (z : ℕ) → one (eqb (suit z) u) ≤ 1 = λ z. one_le (eqb (suit z) u) in
    let is : (z : ℕ) → one (eqb (suit z) u) ≡ 1 → suit z ≡ u = λ z q. eqb-true (suit z) u (one_true _ q) in
    let ha = most a in
    let hb = most b in
    let hc = most c in
    let hx = most x in
    let hy = most y in
    (is a (omega arith), is x (omega arith), is y (omega arith))

-- two different cards of one suit have different ranks
differ : (x y r : ℕ) → suit x ≡ suit y → (x ≡ y → ⊥) → one (eqb (rank x) r) + one (eqb (rank y) r) ≤ 1
differ x y r e d = go (eqb (rank x) r) (eqb (rank y) r) refl refl
  where
    go : (p q : Bool) → eqb (rank x) r ≡ p → eqb (rank y) r ≡ q → one p + one q ≤ 1
    go true true p q = absurd (d (omega (arith, eqb-true (rank x) r p, eqb-true (rank y) r q)))
    go true false p q = omega arith
    go false q' p q = omega (arith, one_le q')

-- at one rank, which k of the community cards have: both runs have it where a community card does
both_have : (A B p q p' q' : Bool) (k : ℕ) → one A ≡ k + (one p + one q) → one B ≡ k + (one p' + one q')
    → one p + one p' ≤ 1 → one p + one q' ≤ 1 → one q + one p' ≤ 1 → one q + one q' ≤ 1 → one (A && B) ≡ k
both_have true true true q p' q' k e f h₁ h₂ h₃ h₄ = omega arith
both_have true true false true p' q' k e f h₁ h₂ h₃ h₄ = omega arith
both_have true true false false p' q' k e f h₁ h₂ h₃ h₄ = omega arith
both_have true false p q p' q' k e f h₁ h₂ h₃ h₄ = omega arith
both_have false B p q p' q' k e f h₁ h₂ h₃ h₄ = omega arith

module _ (a b c : ℕ) (ha : a < 52) (hb : b < 52) (hc : c < 52) where
  abbrev hand : ℕ → ℕ → List ℕ
  hand x y = a ∷ b ∷ c ∷ x ∷ y ∷ []

  pair : (x y x' y' u p u' p' : ℕ) → SuitedRun (hand x y) u p → SuitedRun (hand x' y') u' p' → Apart x y x' y' → apart p p' ≡ 2
  unfolding of_rank count common far_off
  pair x y x' y' u p u' p' s s' d =
      let t = suits a b c x y u s.suited in
      let t' = suits a b c x' y' u' s'.suited in
      let at : ℕ → ℕ → ℕ = λ z r. one (eqb (rank z) r) in
      let over : (r : ℕ) → r < 13 → one (on_run 5 p r && on_run 5 p' r) ≡ at a r + (at b r + at c r) =
      λ r h. both_have (on_run 5 p r) (on_run 5 p' r) (eqb (rank x) r) (eqb (rank y) r) (eqb (rank x') r) (eqb (rank y') r)
      (at a r + (at b r + at c r)) (omega (arith, ranks (hand x y) u p refl s r h)) (omega (arith, ranks (hand x' y') u' p' refl s' r h))
      (differ x x' r (omega arith) d.0.0) (differ x y' r (omega arith) d.0.1) (differ y x' r (omega arith) d.1.0) (differ y y' r (omega arith) d.1.1) in
      let three : common p p' ≡ 3 =
      omega (
        arith,
        sum_same 13 (λ r. one (on_run 5 p r && on_run 5 p' r)) (λ r. at a r + (at b r + at c r)) over,
        sum_add 13 (at a) (λ r. at b r + at c r),
        sum_add 13 (at b) (at c),
        on_its_heap 13 (rank a) (omega arith),
        on_its_heap 13 (rank b) (omega arith),
        on_its_heap 13 (rank c) (omega arith),
      ) in
      let e : p - 1 + 1 ≡ p = omega arith in
      let e' : p' - 1 + 1 ≡ p' = omega arith in
      let row = every_at (λ i. every_below 10 (λ j. far_off (i + 1) (j + 1))) 10 two-apart (p - 1) (omega arith) in
      let test : far_off p p' ≡ true = rw (e, e') at (every_at (λ j. far_off (p - 1 + 1) (j + 1)) 10 row (p' - 1) (omega arith)) in
      eqb-true (apart p p') 2 (rw (eq-eqb (common p p') 3 three) at test)

  -- no three seats hold a royal or a straight flush
  pub no_three_tops : (x y x' y' x'' y'' : ℕ) → is_top (name_five (hand x y)) ≡ true → is_top (name_five (hand x' y')) ≡ true → is_top (name_five (hand x'' y'')) ≡ true
      → Apart x y x' y' → Apart x y x'' y'' → Apart x' y' x'' y'' → ⊥
  unfolding apart
  no_three_tops x y x' y' x'' y'' t t' t'' d e f =
      let s = top_is (hand x y) t in
      let s' = top_is (hand x' y') t' in
      let s'' = top_is (hand x'' y'') t'' in
      let first = pair x y x' y' s.0 s.1 s'.0 s'.1 s.2 s'.2 d in
      let second = pair x y x'' y'' s.0 s.1 s''.0 s''.1 s.2 s''.2 e in
      let third = pair x' y' x'' y'' s'.0 s'.1 s''.0 s''.1 s'.2 s''.2 f in
      omega (arith, first, second, third)

  -- no two seats hold a royal flush
  pub no_two_royals : (x y x' y' : ℕ) → is_royal (name_five (hand x y)) ≡ true → is_royal (name_five (hand x' y')) ≡ true → Apart x y x' y' → ⊥
  unfolding apart
  no_two_royals x y x' y' t t' d =
      let s = royal_is (hand x y) t in
      let s' = royal_is (hand x' y') t' in
      let none = pair x y x' y' s.0 10 s'.0 10 s.1 s'.1 d in
      omega (arith, none)
