use lib.ListN.{take}
use mathlib.Core.List.{map}
use Rattle.text.specs.Page.{Puts}
use Rattle.text.specs.Text.{listed}
use Rattle.text.proofs.Page.put_list.Given as goal

abbrev pub invariant-loop-number : goal.invariant-loop-number
invariant-loop-number g l = Puts l.initial.self l.self (listed (map g.T.Number.value (take l.number-index l.numbers)))
