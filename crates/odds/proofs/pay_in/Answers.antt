use mathlib.Core.Path.{◌∙◌}
use native.Mathlib.Omega.{arith}
use Rattle.odds.proofs.Lines.{no_table, read_at}
use Rattle.odds.proofs.pay_in.Goals as goal

pub returns-then-table-eq0 : goal.returns-then-table-eq0
returns-then-table-eq0 c = no_table _ _ c.if-table-eq0.true

pub returns : goal.returns
returns c = c.at.ensures ∙ read_at _ _ (omega arith)
