use lib.Dec.{eqb}
use Rattle.counting.proofs.Lists.{Counted}
use Rattle.cards.specs.Card.{suit}
use Rattle.hands.proofs.of_suit.Given as goal

abbrev pub invariant-loop-card : goal.invariant-loop-card
invariant-loop-card l = Counted (λ c. eqb (suit c) l.s) l.cards l.n l.card-index
