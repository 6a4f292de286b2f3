use Rattle.std.proofs.Common.{rules, tests, arith, ◌-◌, ◌+◌}
use Rattle.std.proofs.lemmas.Iterator.{YieldsList-from_range}
use Rattle.std.proofs.lemmas.Iterator.Search.{any_from_yields_List}
use Rattle.counting.proofs.Library.{some_range}
use Rattle.hands.specs.Hand.{of_rank, run, straight}
use Rattle.hands.proofs.is_straight.Goals as goal

pub returns : goal.returns
unfolding straight
returns c =
    let v = c.args in
    rw some_range (
    any_from_yields_List (λ i. run v.n (i + 1) (of_rank v.cards.now)) _ _ _ c.any.ensures.ran (YieldsList-from_range 0 (15 - v.n) (15 - v.n) (cc) (omega arith)) (λ x b q k. search (rules, tests))
    )
