use Rattle.std.proofs.Common.{◌≡◌, ◌-◌}
use Rattle.words.proofs.Lines.{meet}
use Rattle.words.proofs.runs.Given as goal

abbrev pub invariant-loop-i : goal.invariant-loop-i
invariant-loop-i l = l.runs ≡ meet (l.i - 1) l.line
