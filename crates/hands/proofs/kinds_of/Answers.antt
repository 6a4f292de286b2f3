use Rattle.std.proofs.Common.{rules, tests, arith, ◌∙◌, ℕ, ◌+◌, eqb}
use Rattle.std.proofs.lemmas.Iterator.{YieldsList-from_range}
use Rattle.std.proofs.lemmas.Iterator.Consumers.{count_from_yields_List, YieldsList-from_filter}
use Rattle.counting.proofs.Library.{kept_tally}
use Rattle.hands.specs.Hand.{of_rank, kinds}
use Rattle.hands.proofs.kinds_of.Goals as goal

pub returns : goal.returns
unfolding kinds
returns c =
    let v = c.args in
    let test = λ (i : ℕ). eqb (of_rank v.cards.now (v.lo + i)) v.k in
    count_from_yields_List c.filter.result c.count.result c.count.ensures.ran (YieldsList-from_filter _ test (YieldsList-from_range 0 v.n v.n (cc) (omega arith)) c.filter.ensures.closure (λ x r q k. search (rules, tests)))
    ∙ kept_tally test v.n
