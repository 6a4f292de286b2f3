use Rattle.std.proofs.Common.{rules, tests}
use Rattle.counting.proofs.Library.{all_below}
use Rattle.seating.specs.Seat.{is_lower, is_above}
use Rattle.seating.proofs.is_above.Goals as goal

pub returns : goal.returns
unfolding is_above
returns c = all_below (is_lower c.args.antes c.args.seat) 7 c.all.ensures.ran (cc) (λ x b q k. search (rules, tests))
