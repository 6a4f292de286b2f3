use Rattle.std.proofs.Common.{rules, tests}
use Rattle.std.proofs.lemmas.Iterator.{YieldsList-from_slice}
use Rattle.std.proofs.lemmas.Iterator.Search.{all_from_yields_List}
use Rattle.counting.proofs.Library.{every_of-list_all}
use Rattle.records.specs.Bytes.{zero_from}
use Rattle.records.proofs.is_zero_from.Goals as goal

pub returns : goal.returns
unfolding zero_from
returns c =
    rw (every_of-list_all, ← c.rest_from.ensures) (
    all_from_yields_List _ _ _ _ c.all.ensures.ran (YieldsList-from_slice c.rest_from.result.now cc) (λ x b q k. search (rules, tests))
    )
