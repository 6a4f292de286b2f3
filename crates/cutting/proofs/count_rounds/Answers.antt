use Rattle.std.proofs.Common.{rules, tests, ap, sym, refl, ◌∙◌, ◌+◌, length}
use Rattle.std.specs.Slice.Iter.{chunks_exact_rest}
use Rattle.std.proofs.lemmas.Iterator.Consumers.{YieldsList-at, YieldsList-from_filter, count_from_yields_List}
use Rattle.reading.proofs.Records.{YieldsList-from_records}
use Rattle.cutting.specs.Rounds.{starts_round, round_count}
use Rattle.cutting.proofs.Cuts.{rounds_none, first_counts}
use Rattle.cutting.proofs.count_rounds.Goals as goal

pub returns-in-None : goal.returns-in-None
returns-in-None c = sym (ap length (rounds_none _ (search (rules, tests))))

pub returns-in-Some : goal.returns-in-Some
returns-in-Some c =
    let later =
    count_from_yields_List _ _ c.count.ensures.ran
    (YieldsList-from_filter _ starts_round (YieldsList-at c.filter.ensures.source (YieldsList-from_records (chunks_exact_rest c.next.new.self) (refl) (cc))) c.filter.ensures.closure (λ x b q k. search (rules, tests))) in
    ap (λ n. 1 + n) later ∙ first_counts c.in-Some.field-0.now (chunks_exact_rest c.next.new.self) (search rules) ∙ ap round_count (search rules)
