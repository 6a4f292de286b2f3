use mathlib.Core.Path.{ap, ◌∙◌}
use Rattle.odds.specs.Tables.{board_lines}
use Rattle.odds.specs.Pays.{pay_at, board_pay}
use Rattle.odds.proofs.board_pay.Goals as goal

pub returns : goal.returns
unfolding board_pay board_lines
returns c = c.pay_at.ensures ∙ ap (pay_at board_lines c.args.table) c.board_place.ensures
