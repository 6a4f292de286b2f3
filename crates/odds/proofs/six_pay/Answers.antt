use mathlib.Core.Path.{ap, ◌∙◌}
use Rattle.odds.specs.Tables.{six_lines}
use Rattle.odds.specs.Pays.{pay_at, six_pay}
use Rattle.odds.proofs.six_pay.Goals as goal

pub returns : goal.returns
unfolding six_pay six_lines
returns c = c.pay_at.ensures ∙ ap (pay_at six_lines c.args.table) c.six_line.ensures
