-- Five cards: what is left of the chain of names where their ranks all differ, and where some don't.
-- Assumes nothing.
use Prim.Native.Nat.{ℕ, ◌≤◌}
use mathlib.Core.Path.{◌≡◌}
use mathlib.Core.Bool.{true, false, ◌&&◌, and-false}
use native.Mathlib.Omega.{arith}
use lib.Dec.{eqb}
use Rattle.std.specs.Prelude.{if◌then◌else◌}
use Rattle.counting.specs.Count.{sum_below}
use Rattle.counting.proofs.Tests.{clash, is_false}
use Rattle.cards.specs.Card.{six, jack}
use Rattle.hands.specs.Hand.{kinds, of_a_kind, flush, run, straight}
use Rattle.words.specs.Word.{apart}
use Rattle.words.proofs.Apart.{none_of_a_kind}
use Rattle.words.proofs.Lines.{straight-apart, royal_straight}
use Rattle.names.specs.Five.{five_by}
use Rattle.names.specs.declared.FiveName.TheVariants.{RoyalFlush, StraightFlush, FourOfAKind, FullHouse, Flush, Straight, ThreeOfAKind, TwoPair, JacksToAces, SixesToTens, Other}

module _ (h t : ℕ → ℕ) where
  pub all_differ : apart h ≡ true
      → (if flush 5 t && run 5 10 h then RoyalFlush
      else if flush 5 t && straight 5 h then StraightFlush
      else if flush 5 t then Flush
      else if straight 5 h then Straight
      else Other) ≡ five_by h t
  unfolding five_by
  all_differ e =
      simp (
        none_of_a_kind h 4 0 13 (omega arith) (omega arith) e,
        none_of_a_kind h 3 0 13 (omega arith) (omega arith) e,
        none_of_a_kind h 2 0 13 (omega arith) (omega arith) e,
        none_of_a_kind h 2 9 4 (omega arith) (omega arith) e,
        none_of_a_kind h 2 4 5 (omega arith) (omega arith) e,
      )

  pub some_alike : sum_below 13 h ≤ 5 → apart h ≡ false
      → (if eqb (of_a_kind 4 h) 1 then FourOfAKind
      else if eqb (of_a_kind 3 h) 1 && eqb (of_a_kind 2 h) 1 then FullHouse
      else if flush 5 t then Flush
      else if eqb (of_a_kind 3 h) 1 then ThreeOfAKind
      else if eqb (of_a_kind 2 h) 2 then TwoPair
      else if eqb (kinds 2 jack 4 h) 1 then JacksToAces
      else if eqb (kinds 2 six 5 h) 1 then SixesToTens
      else Other) ≡ five_by h t
  unfolding five_by
  some_alike few e =
      let row : straight 5 h ≡ false = is_false (straight 5 h) (λ s. clash (apart h) (straight-apart h few s) e) in
      let royal : run 5 10 h ≡ false = is_false (run 5 10 h) (λ s. clash (straight 5 h) (royal_straight h s) row) in
      simp (row, royal, and-false)
