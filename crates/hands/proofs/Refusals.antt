-- A hand that is not refused is as many cards as were asked for, with no fault, and the other way round.
-- Assumes nothing.
use Prim.Native.Nat.{ℕ}
use mathlib.Core.Path.{◌≡◌}
use mathlib.Core.Bool.{false, not}
use mathlib.Core.List.{List}
use native.Mathlib.Omega.{arith}
use lib.Dec.{eqb}
use lib.ListN.{length}
use borrow.Author.Tests.{eqb-true, eq-eqb, not-false}
use Rattle.counting.proofs.Tests.{neither}
use Rattle.cards.specs.Deck.{faulty}
use Rattle.hands.specs.Hand.{hand_refusal}

pub not_refused : (n : ℕ) (cs : List ℕ) → hand_refusal n cs ≡ 0 → (length cs ≡ n) × (faulty cs ≡ false)
unfolding hand_refusal
not_refused n cs e =
    let both = neither 18 11 (not (eqb (length cs) n)) (faulty cs) (omega arith) (omega arith) e in
    (eqb-true _ _ (not-false _ both.0), both.1)

pub sound_hand : (n : ℕ) (cs : List ℕ) → length cs ≡ n → faulty cs ≡ false → hand_refusal n cs ≡ 0
unfolding hand_refusal
sound_hand n cs e f = simp (eq-eqb _ _ e, f)
