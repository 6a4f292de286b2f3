-- A card against some ranks, both in words: whether they have a digit in common.
-- Assumes nothing.
use Prim.Native.Nat.{ℕ, ◌*◌}
use mathlib.Core.Path.{◌≡◌, refl, ap, ap₂, sym, ◌∙◌}
use mathlib.Core.Bool.{Bool, true, false, not, ◌&&◌}
use mathlib.Core.List.{[], ◌∷◌}
use lib.Bits.{bit_and}
use native.Mathlib.Omega.{arith}
use lib.Dec.{eqb, ltb}
use borrow.Author.Tests.{eq-eqb, ne_eqb, eqb-true, lt-ltb, ltb-true}
use Rattle.counting.specs.Choose.{one}
use Rattle.counting.specs.Count.{some_below}
use Rattle.counting.proofs.Ranges.{some_where, some_here}
use Rattle.counting.proofs.Tests.{and_true, both, same_true, one_le}
use Rattle.cards.specs.Card.{rank}
use Rattle.hands.specs.Hand.{of_rank}
use Rattle.words.specs.Word.{word, digits}
use Rattle.words.proofs.Digits.{digits_and, digits_same, some_digit}
use Rattle.words.proofs.Cards.{alone}

and_one : (a b : Bool) → bit_and (one a) (one b) ≡ one (a && b)
and_one true true = refl
and_one true false = refl
and_one false true = refl
and_one false false = refl

module _ (f : ℕ → Bool) (c : ℕ) where
  -- the card's rank is one of the thirteen, and passes the test
  abbrev passes : Bool
  passes = ltb (rank c) 13 && f (rank c)

  -- the ranks that pass the test, and the card's
  common : bit_and (word (λ k. one (f k))) (word (of_rank (c ∷ []))) ≡ digits 13 (λ r. one (f r && eqb (rank c) r))
  common =
      ap (bit_and (word (λ k. one (f k)))) (sym (alone c))
      ∙ digits_and 13 (λ r. one (f r)) (λ r. one (eqb (rank c) r)) (λ r l. omega (arith, one_le (f r))) (λ r l. omega (arith, one_le (eqb (rank c) r)))
      ∙ digits_same 13 (λ r. bit_and (one (f r)) (one (eqb (rank c) r))) (λ r. one (f r && eqb (rank c) r)) (λ r l. and_one (f r) (eqb (rank c) r))

  somewhere : some_below 13 (λ r. f r && eqb (rank c) r) ≡ passes
  somewhere = same_true (some_below 13 (λ r. f r && eqb (rank c) r)) passes there back
    where
      there : some_below 13 (λ r. f r && eqb (rank c) r) ≡ true → passes ≡ true
      there t =
          let s = some_where (λ r. f r && eqb (rank c) r) 13 t in
          let p = and_true (f s.0) (eqb (rank c) s.0) s.2 in
          let e : rank c ≡ s.0 = eqb-true (rank c) s.0 p.1 in
          both (ltb (rank c) 13) (f (rank c)) (lt-ltb (rank c) 13 (omega (arith, e, s.1))) (ap f e ∙ p.0)

      back : passes ≡ true → some_below 13 (λ r. f r && eqb (rank c) r) ≡ true
      back t =
          let p = and_true (ltb (rank c) 13) (f (rank c)) t in
          some_here (λ r. f r && eqb (rank c) r) 13 (rank c) (ltb-true (rank c) 13 p.0) (both (f (rank c)) (eqb (rank c) (rank c)) p.1 (eq-eqb (rank c) (rank c) refl))

  pub in_common : not (eqb (bit_and (word (λ k. one (f k))) (word (of_rank (c ∷ [])))) 0) ≡ passes
  in_common = ap (λ (x : ℕ). not (eqb x 0)) common ∙ some_digit 13 (λ r. f r && eqb (rank c) r) ∙ somewhere

  -- so a card adds what its place counts, or nothing
  module _ (ranks own counts : ℕ) (these : ranks ≡ word (λ k. one (f k))) (mine : own ≡ word (of_rank (c ∷ []))) where
    told : not (eqb (bit_and ranks own) 0) ≡ passes
    told = ap₂ (λ (x y : ℕ). not (eqb (bit_and x y) 0)) these mine ∙ in_common

    pub adds : (bit_and ranks own ≡ 0 → ⊥) → counts ≡ counts * one passes
    adds n =
        let t : true ≡ passes = sym (ap not (ne_eqb (bit_and ranks own) 0 n)) ∙ told in
        rw (← t) (omega arith)

    pub adds_none : bit_and ranks own ≡ 0 → 0 ≡ counts * one passes
    adds_none z =
        let t : false ≡ passes = sym (ap not (eq-eqb (bit_and ranks own) 0 z)) ∙ told in
        rw (← t) (omega arith)
