use Rattle.std.proofs.Common.{rules, tests, not, eqb, ap, ◌∙◌, ◌+◌}
use Rattle.std.proofs.lemmas.Iterator.{YieldsList-from_slice}
use Rattle.std.proofs.lemmas.Iterator.Consumers.{YieldsList-at, count_from_yields_List}
use Rattle.std.proofs.lemmas.Iterator.Search.{YieldsList-from_take_while}
use Rattle.columns.specs.Columns.{before_newline}
use Rattle.columns.proofs.Lines.{newline_at}
use Rattle.columns.proofs.line_end.Goals as goal

pub returns : goal.returns
returns c =
    let counted =
    count_from_yields_List _ _ c.count.ensures.ran
    (YieldsList-from_take_while _ (λ b. not (eqb b 10))
    (YieldsList-at c.take_while.ensures.source (YieldsList-from_slice c.rest_from.result.now cc))
    c.take_while.ensures.closure c.take_while.ensures.done (λ x b q k. search (rules, tests))) in
    ap (λ n. c.args.from + n) (counted ∙ newline_at c.rest_from.result.now ∙ ap before_newline c.rest_from.ensures)
