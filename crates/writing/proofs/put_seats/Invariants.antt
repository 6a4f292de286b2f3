use Rattle.seating.specs.Seat.{seat_record}
use Rattle.records.specs.Seats.{plays}
use Rattle.led.specs.Records.{only}
use Rattle.writing.proofs.Stores.{Placed}
use Rattle.writing.proofs.put_seats.Given as goal

abbrev pub invariant-loop-k : goal.invariant-loop-k
invariant-loop-k l = Placed (λ i. only (plays l.round.wagers.antes i) (seat_record l.round.wagers i)) l.initial.room l.at 7 l.k l.room l.end
