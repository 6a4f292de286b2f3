use Rattle.std.proofs.Common.{rules, tests}
use Rattle.counting.proofs.Library.{any_below}
use Rattle.choosing.specs.Streets.{has_to_choose, is_open}
use Rattle.choosing.proofs.Play.is_open.Goals as goal

pub returns : goal.returns
unfolding is_open
returns c = any_below (has_to_choose c.args.antes c.args.self c.args.s) 7 c.any.ensures.ran (cc) (λ x b q k. search (rules, tests))
