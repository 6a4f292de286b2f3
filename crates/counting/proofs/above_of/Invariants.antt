use lib.Dec.{ltb}
use lib.ListN.{length, get_or}
use Rattle.counting.proofs.Ranges.{Tallied}
use Rattle.counting.proofs.above_of.Given as goal

abbrev pub invariant-loop-number : goal.invariant-loop-number
invariant-loop-number l = Tallied (length l.numbers) (λ i. ltb l.own (get_or l.numbers i 0)) l.count l.number-index
