use Rattle.std.proofs.Common.{rules, tests}
use Rattle.counting.proofs.Library.{all_below}
use Rattle.seating.specs.Seat.{seat_fits, seats_fit}
use Rattle.seating.proofs.Wagers.fit.Goals as goal

pub returns : goal.returns
unfolding seats_fit
returns c = all_below (seat_fits c.args.table c.args.self) 7 c.all.ensures.ran (cc) (λ x b q k. search (rules, tests))
