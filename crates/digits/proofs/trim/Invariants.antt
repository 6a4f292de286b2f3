use Rattle.digits.proofs.Spells.{Kept}
use Rattle.digits.proofs.trim.Given as goal

abbrev pub invariant-loop-n : goal.invariant-loop-n
invariant-loop-n l = Kept l.bytes l.n
