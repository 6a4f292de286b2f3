use Rattle.std.proofs.Common.{rules, tests, not}
use Rattle.std.proofs.lemmas.Iterator.Adapters.{YieldsList-from_skip}
use Rattle.std.proofs.lemmas.Iterator.Consumers.{YieldsList-at, count_from_yields_List}
use Rattle.std.proofs.lemmas.Iterator.Search.{YieldsList-from_take_while}
use Rattle.reading.proofs.Records.{YieldsList-from_records}
use Rattle.cutting.specs.Rounds.{starts_round}
use Rattle.cutting.proofs.Cuts.{none_first, later_count}
use Rattle.cutting.proofs.first_round.Goals as goal

pub returns-then-file-lt16 : goal.returns-then-file-lt16
returns-then-file-lt16 c = none_first _ c.if-file-lt16.true

pub returns : goal.returns
returns c =
    later_count _ c.if-file-lt16.false _
    (count_from_yields_List _ _ c.count-more.ensures.ran
    (YieldsList-from_take_while _ (λ b. not (starts_round b))
    (YieldsList-at c.take_while.ensures.source (YieldsList-from_skip 1 (YieldsList-at c.skip-later.ensures.source (YieldsList-from_records c.args.file.now (cc) (cc))) cc))
    c.take_while.ensures.closure c.take_while.ensures.done (λ x b q k. search (rules, tests))))
