use Rattle.results.proofs.Filling.{Seats}
use Rattle.results.proofs.list_of.Given as goal

abbrev pub invariant-loop-k : goal.invariant-loop-k
invariant-loop-k l = Seats l.round l.list l.k
