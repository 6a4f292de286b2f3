use Rattle.std.proofs.Common.{rules, tests, arith, ◌+◌, leb}
use Rattle.std.proofs.lemmas.Iterator.{YieldsList-from_range}
use Rattle.std.proofs.lemmas.Iterator.Search.{all_from_yields_List}
use Rattle.counting.proofs.Library.{every_range}
use Rattle.hands.specs.Hand.{of_rank, rank_on, run}
use Rattle.hands.proofs.is_run.Goals as goal

pub returns : goal.returns
unfolding run
returns c =
    let v = c.args in
    rw every_range (
    all_from_yields_List (λ i. leb 1 (of_rank v.cards.now (rank_on (v.p + i)))) _ _ _ c.all.ensures.ran (YieldsList-from_range 0 v.n v.n (cc) (omega arith)) (λ x b q k. search (rules, tests))
    )
