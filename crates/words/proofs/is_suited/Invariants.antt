use Rattle.std.proofs.Common.{◌≡◌, ◌&&◌, eqb, drop}
use Rattle.counting.specs.Count.{every_of}
use Rattle.cards.specs.Card.{suit}
use Rattle.words.proofs.is_suited.Given as goal

abbrev pub invariant-loop-card : goal.invariant-loop-card
invariant-loop-card l = (l.suited && every_of (λ x. eqb (suit x) l.first) (drop l.card-index l.cards)) ≡ every_of (λ x. eqb (suit x) l.first) l.cards
