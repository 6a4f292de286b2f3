use Rattle.shifts.proofs.Turns.{Settling}
use Rattle.shifts.proofs.settle_rounds.Given as goal

abbrev pub invariant-loop-k : goal.invariant-loop-k
invariant-loop-k l = Settling l.file l.amounts l.answers l.rest l.k
