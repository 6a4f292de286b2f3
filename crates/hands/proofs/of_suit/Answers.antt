use Prim.Native.Nat.{ℕ}
use native.Mathlib.Omega.{arith}
use lib.Dec.{eqb}
use Rattle.counting.proofs.Lists.{count_step, count_most, count-done}
use Rattle.cards.specs.Card.{suit}
use Rattle.hands.specs.Hand.{of_suit}
use Rattle.hands.proofs.of_suit.Goals as goal

pub overflow_add-n : goal.overflow_add-n
overflow_add-n c =
    let cards = c.args.cards.now in
    let test = λ (x : ℕ). eqb (suit x) c.args.s in
    omega (arith, c.one_where.ensures.1, c.loop-card.invariant, count_most test cards)

pub loop-card-preserved : goal.loop-card-preserved
loop-card-preserved c =
    let cards = c.args.cards.now in
    let test = λ (x : ℕ). eqb (suit x) c.args.s in
    let told = rw c.suit_of.ensures at c.one_where.ensures.0 in
    omega (arith, told, c.loop-card.invariant, count_step test cards c.loop-card.card-index c.loop-card-test.true)

pub returns : goal.returns
unfolding of_suit
returns c = count-done _ _ _ _ c.loop-card.invariant c.loop-card-test.false
