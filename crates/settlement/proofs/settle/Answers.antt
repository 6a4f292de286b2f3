use mathlib.Core.Path.{sym, ◌∙◌}
use Rattle.settlement.proofs.Answers.{not_held, wrong_room, round_promised}
use Rattle.settlement.proofs.settle.Goals as goal

pub returns-then-not-is_held : goal.returns-then-not-is_held
returns-then-not-is_held c =
    let d = c.is_held.ensures in
    round_promised _ _ _ _ _ (not_held _ _ (sym d.test ∙ c.if-not-is_held.true)) d

pub returns-then-results-ne-RESULTS : goal.returns-then-results-ne-RESULTS
returns-then-results-ne-RESULTS c =
    let d = c.is_held.ensures in
    round_promised _ _ _ _ _ (wrong_room _ _ (sym d.test ∙ c.if-not-is_held.false) c.if-results-ne-RESULTS.true) d

pub settle_held-requires : goal.settle_held-requires
settle_held-requires c = (sym c.is_held.ensures.test ∙ c.if-not-is_held.false, c.if-results-ne-RESULTS.false)

pub returns : goal.returns
returns c = round_promised _ _ _ _ _ c.settle_held.ensures c.is_held.ensures
