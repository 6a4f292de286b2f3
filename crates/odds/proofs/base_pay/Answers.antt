use mathlib.Core.Path.{ap, ◌∙◌}
use Rattle.odds.specs.Tables.{base_lines}
use Rattle.odds.specs.Pays.{pay_at, base_pay}
use Rattle.odds.proofs.base_pay.Goals as goal

pub returns : goal.returns
unfolding base_pay base_lines
returns c = c.pay_at.ensures ∙ ap (pay_at base_lines c.args.table) c.five_place.ensures
