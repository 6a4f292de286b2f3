use Rattle.reading.proofs.Readings.{Going}
use Rattle.reading.proofs.read_records.Given as goal

abbrev pub invariant-loop-place : goal.invariant-loop-place
invariant-loop-place l = Going l.file l.round l.place-iterator
