use Rattle.std.proofs.Common.{rules, tests, refl, eqb}
use Rattle.std.proofs.lemmas.Iterator.{YieldsList-from_range}
use Rattle.std.proofs.lemmas.Iterator.Search.{any_from_yields_List}
use Rattle.counting.proofs.Library.{some_range}
use Rattle.hands.specs.Hand.{of_suit, flush}
use Rattle.hands.proofs.is_flush.Goals as goal

pub returns : goal.returns
unfolding flush
returns c =
    rw some_range (
    any_from_yields_List (λ s. eqb (of_suit c.args.cards.now s) c.args.n) _ _ _ c.any.ensures.ran (YieldsList-from_range 0 4 4 (cc) refl) (λ x b q k. search (rules, tests))
    )
