use Rattle.std.proofs.Common.{rules, tests}
use Rattle.counting.proofs.Library.{all_below}
use Rattle.choosing.specs.Slots.{street_fits, play_fits}
use Rattle.choosing.proofs.Play.fits.Goals as goal

pub returns : goal.returns
unfolding play_fits
returns c = all_below (street_fits c.args.antes c.args.self c.args.opened) 3 c.all.ensures.ran (cc) (λ x b q k. search (rules, tests))
