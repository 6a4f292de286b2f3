use Rattle.std.proofs.Common.{rules, tests}
use Rattle.counting.proofs.Library.{all_below}
use Rattle.choosing.specs.Slots.{slot_at, street_fits}
use Rattle.choosing.proofs.Play.street_fits.Goals as goal

pub returns : goal.returns
unfolding street_fits
returns c = all_below (slot_at c.args.antes c.args.self c.args.opened c.args.s) 7 c.all.ensures.ran (cc) (λ x b q k. search (rules, tests))
