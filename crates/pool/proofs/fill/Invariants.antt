use Rattle.counting.proofs.Fills.{Filled}
use Rattle.pool.proofs.fill.Given as goal

abbrev pub invariant-loop-i : goal.invariant-loop-i
invariant-loop-i l = Filled l.wins l.shares l.i
