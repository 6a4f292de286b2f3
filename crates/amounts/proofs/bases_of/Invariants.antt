use Rattle.amounts.specs.Base.{win, kept}
use Rattle.counting.proofs.Fills.{Each}
use Rattle.amounts.proofs.bases_of.Given as goal

abbrev pub invariant-loop-k : goal.invariant-loop-k
invariant-loop-k l = Each 7 (win l.round) l.wins l.k × Each 7 (kept l.round) l.kept l.k
