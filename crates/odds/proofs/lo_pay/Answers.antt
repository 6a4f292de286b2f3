use mathlib.Core.Path.{ap, ◌∙◌}
use Rattle.odds.specs.Tables.{lo_lines}
use Rattle.odds.specs.Pays.{pay_at, lo_pay}
use Rattle.odds.proofs.lo_pay.Goals as goal

pub returns : goal.returns
unfolding lo_pay lo_lines
returns c = c.pay_at.ensures ∙ ap (pay_at lo_lines c.args.table) c.lo_place.ensures
