-- What a royal flush and a straight flush are: five cards of one suit that are a run, from the ten for a royal.
-- Assumes nothing.
use Prim.Native.Nat.{ℕ, ◌+◌, ◌-◌, ◌≤◌, ◌<◌}
use mathlib.Core.Path.{◌≡◌, refl}
use mathlib.Core.Bool.{Bool, true, false, ◌&&◌}
use mathlib.Core.Logic.{◌⊎◌, inl, inr}
use mathlib.Core.List.{List}
use native.Mathlib.Omega.{arith}
use lib.Dec.{eqb}
use borrow.Author.Tests.{eqb-true, eq-eqb, ltb-true}
use Rattle.std.specs.Prelude.{if◌then◌else◌}
use Rattle.counting.proofs.Tests.{and_true}
use Rattle.counting.proofs.Ranges.{some_where, some_here}
use Rattle.cards.specs.Card.{six, jack}
use Rattle.hands.specs.Hand.{of_rank, of_suit, kinds, of_a_kind, flush, run, straight}
use Rattle.names.specs.Five.{five_by, name_five, five_place}
use Rattle.names.specs.Top.{is_royal, is_top}
use Rattle.tops.specs.Run.{SuitedRun}
use Rattle.names.specs.declared.FiveName.{FiveName}
use Rattle.names.specs.declared.FiveName.TheVariants.{RoyalFlush, StraightFlush, FourOfAKind, FullHouse, Flush, Straight, ThreeOfAKind, TwoPair, JacksToAces, SixesToTens, Other}

-- a choice between two names from place n on is one
from : (n : ℕ) (b : Bool) (x y : FiveName) → n ≤ five_place x → n ≤ five_place y → n ≤ five_place (if b then x else y)
from n true x y p q = p
from n false x y p q = q

module _ (h t : ℕ → ℕ) where
  abbrev royals : Bool
  royals = flush 5 t && run 5 10 h

  abbrev others : Bool
  others = flush 5 t && straight 5 h

  lower : royals ≡ false → others ≡ false → 2 ≤ five_place (five_by h t)
  unfolding five_by
  lower p q =
      rw (p, q)
      (from 2 (eqb (of_a_kind 4 h) 1) FourOfAKind _ (omega arith)
      (from 2 (eqb (of_a_kind 3 h) 1 && eqb (of_a_kind 2 h) 1) FullHouse _ (omega arith)
      (from 2 (flush 5 t) Flush _ (omega arith)
      (from 2 (straight 5 h) Straight _ (omega arith)
      (from 2 (eqb (of_a_kind 3 h) 1) ThreeOfAKind _ (omega arith)
      (from 2 (eqb (of_a_kind 2 h) 2) TwoPair _ (omega arith)
      (from 2 (eqb (kinds 2 jack 4 h) 1) JacksToAces _ (omega arith)
      (from 2 (eqb (kinds 2 six 5 h) 1) SixesToTens Other (omega arith) (omega arith)))))))))

  not_royal : royals ≡ false → 1 ≤ five_place (five_by h t)
  unfolding five_by
  not_royal p = go others refl
    where
      go : (b : Bool) → others ≡ b → 1 ≤ five_place (five_by h t)
      go true q = rw (p, q) (omega arith)
      go false q = omega (arith, lower p q)

  pub is_royal_lem : is_royal (five_by h t) ≡ true → royals ≡ true
  is_royal_lem e = go royals refl
    where
      go : (b : Bool) → royals ≡ b → b ≡ true
      go true p = refl
      go false p = absurd (omega (arith, not_royal p, eqb-true (five_place (five_by h t)) 0 e))

  pub is_top_lem : is_top (five_by h t) ≡ true → (royals ≡ true) ⊎ (others ≡ true)
  is_top_lem e = go royals refl others refl
    where
      go : (a : Bool) → royals ≡ a → (b : Bool) → others ≡ b → (royals ≡ true) ⊎ (others ≡ true)
      go true p b q = inl p
      go false p true q = inr q
      go false p false q = absurd (omega (arith, lower p q, ltb-true (five_place (five_by h t)) 2 e))

-- ---- the cards

module _ (cs : List ℕ) where
  one-suit : flush 5 (of_suit cs) ≡ true → (u : ℕ) × (u < 4) × (of_suit cs u ≡ 5)
  unfolding flush
  one-suit e = let r = some_where (λ s. eqb (of_suit cs s) 5) 4 e in (r.0, r.1, eqb-true _ _ r.2)

  one-run : straight 5 (of_rank cs) ≡ true → (p : ℕ) × ((1 ≤ p) × (p ≤ 10)) × (run 5 p (of_rank cs) ≡ true)
  unfolding straight
  one-run e = let r = some_where (λ i. run 5 (i + 1) (of_rank cs)) 10 e in (r.0 + 1, (omega arith, omega arith), r.2)

  -- a royal flush is a suited run from the ten
  pub royal_is : is_royal (name_five cs) ≡ true → (u : ℕ) × SuitedRun cs u 10
  unfolding name_five
  royal_is e =
      let both = and_true (flush 5 (of_suit cs)) (run 5 10 (of_rank cs)) (is_royal_lem (of_rank cs) (of_suit cs) e) in
      let s = one-suit both.0 in
      (s.0, record { suit = s.1; suited = s.2; starts = (omega arith, omega arith); in_run = both.1 })

  -- a royal flush or a straight flush is a suited run
  pub top_is : is_top (name_five cs) ≡ true → (u : ℕ) × (p : ℕ) × SuitedRun cs u p
  unfolding name_five
  top_is e = go (is_top_lem (of_rank cs) (of_suit cs) e)
    where
      go : (royals (of_rank cs) (of_suit cs) ≡ true) ⊎ (others (of_rank cs) (of_suit cs) ≡ true) → (u : ℕ) × (p : ℕ) × SuitedRun cs u p
      go (inl r) =
          let both = and_true (flush 5 (of_suit cs)) (run 5 10 (of_rank cs)) r in
          let s = one-suit both.0 in
          (s.0, 10, record { suit = s.1; suited = s.2; starts = (omega arith, omega arith); in_run = both.1 })
      go (inr r) =
          let both = and_true (flush 5 (of_suit cs)) (straight 5 (of_rank cs)) r in
          let s = one-suit both.0 in
          let p = one-run both.1 in
          (s.0, p.0, record { suit = s.1; suited = s.2; starts = p.1; in_run = p.2 })

  -- and the other way round
  all_suited : (u p : ℕ) → SuitedRun cs u p → flush 5 (of_suit cs) ≡ true
  unfolding flush
  all_suited u p s = some_here (λ v. eqb (of_suit cs v) 5) 4 u s.suit (eq-eqb _ _ s.suited)

  all_run : (u p : ℕ) → SuitedRun cs u p → straight 5 (of_rank cs) ≡ true
  unfolding straight
  all_run u p s =
      let e : p - 1 + 1 ≡ p = omega arith in
      some_here (λ i. run 5 (i + 1) (of_rank cs)) 10 (p - 1) (omega arith) (rw e s.in_run)

  pub is_royal_flush : (u : ℕ) → SuitedRun cs u 10 → name_five cs ≡ RoyalFlush
  unfolding name_five five_by
  is_royal_flush u s = simp (all_suited u 10 s, s.in_run)

  pub is_straight_flush : (u p : ℕ) → SuitedRun cs u p → run 5 10 (of_rank cs) ≡ false → name_five cs ≡ StraightFlush
  unfolding name_five five_by
  is_straight_flush u p s low = simp (all_suited u p s, all_run u p s, low)
