use mathlib.Core.Path.{ap, ◌∙◌}
use Rattle.odds.specs.Tables.{pocket_lines}
use Rattle.odds.specs.Pays.{pay_at, pocket_pay}
use Rattle.odds.proofs.pocket_pay.Goals as goal

pub returns : goal.returns
unfolding pocket_pay pocket_lines
returns c = c.pay_at.ensures ∙ ap (pay_at pocket_lines c.args.table) c.pocket_place.ensures
