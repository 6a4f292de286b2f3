use Rattle.std.proofs.Common.{rules, tests, refl, ◌∙◌, ℕ, not, eqb}
use Rattle.std.proofs.lemmas.Iterator.{YieldsList-from_slice, YieldsList-from_take}
use Rattle.std.proofs.lemmas.Iterator.Consumers.{count_from_yields_List, YieldsList-from_filter}
use Rattle.counting.proofs.Library.{kept_places}
use Rattle.holding.specs.Deal.{playing_before}
use Rattle.holding.proofs.playing_before.Goals as goal

pub returns : goal.returns
unfolding playing_before
returns c =
    let antes = c.args.antes in
    let k = c.args.k in
    let test = λ (a : ℕ). not (eqb a 0) in
    count_from_yields_List c.filter.result _ c.count.ensures.ran (YieldsList-from_filter _ test (YieldsList-from_take k (YieldsList-from_slice antes cc) cc) c.filter.ensures.closure (λ x r q k. search (rules, tests)))
    ∙ kept_places test antes k refl
