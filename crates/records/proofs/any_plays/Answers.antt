use Rattle.std.proofs.Common.{rules, tests, not, eqb, length, ◌≡◌}
use Rattle.std.proofs.lemmas.Iterator.{YieldsList-from_slice}
use Rattle.std.proofs.lemmas.Iterator.Search.{any_from_yields_List}
use Rattle.counting.proofs.Library.{some_at}
use Rattle.records.specs.Seats.{any_plays}
use Rattle.records.proofs.any_plays.Goals as goal

pub returns : goal.returns
unfolding any_plays
returns c =
    let seven : length c.args.antes ≡ 7 = search rules in
    rw (some_at (λ a. not (eqb a 0)) c.args.antes 7 seven) (
    any_from_yields_List _ _ _ _ c.any.ensures.ran (YieldsList-from_slice c.args.antes cc) (λ x b q k. search (rules, tests))
    )
