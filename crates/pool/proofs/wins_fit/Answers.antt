use Rattle.std.proofs.Common.{leb, rules, tests}
use Rattle.std.proofs.lemmas.Iterator.{YieldsList-from_slice}
use Rattle.std.proofs.lemmas.Iterator.Search.{all_from_yields_List}
use Rattle.counting.proofs.Library.{every_of-list_all}
use Rattle.pool.specs.Pool.{wins_fit}
use Rattle.pool.proofs.wins_fit.Goals as goal

pub returns : goal.returns
unfolding wins_fit
returns c =
    rw every_of-list_all (all_from_yields_List (λ win. leb win 500000) _ _ _ c.all.ensures.ran (YieldsList-from_slice c.args.wins.now cc) (λ x b q k. search (rules, tests)))
