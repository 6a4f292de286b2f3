use Rattle.std.proofs.Common.{rules, tests, ◌∙◌, refl, arith}
use Rattle.std.proofs.lemmas.Iterator.{YieldsList-from_range}
use Rattle.std.proofs.lemmas.Iterator.Consumers.{count_from_yields_List, YieldsList-from_filter}
use Rattle.counting.proofs.Library.{kept_tally}
use Rattle.counting.proofs.Ranges.{tally_le}
use Rattle.choosing.specs.Streets.{has_chosen}
use Rattle.writing.proofs.choices_on.Goals as goal

pub returns : goal.returns
returns c =
    let test = has_chosen c.args.play c.args.s in
    let chosen =
    count_from_yields_List c.filter.result _ c.count.ensures.ran (YieldsList-from_filter _ test (YieldsList-from_range 0 7 7 (cc) refl) c.filter.ensures.closure (λ x b q k. search (rules, tests)))
    ∙ kept_tally test 7 in
    record { choices = chosen; most = omega (arith, chosen, tally_le 7 test) }
