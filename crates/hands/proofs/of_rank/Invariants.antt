use lib.Dec.{eqb}
use Rattle.counting.proofs.Lists.{Counted}
use Rattle.cards.specs.Card.{rank}
use Rattle.hands.proofs.of_rank.Given as goal

abbrev pub invariant-loop-card : goal.invariant-loop-card
invariant-loop-card l = Counted (λ c. eqb (rank c) l.r) l.cards l.n l.card-index
