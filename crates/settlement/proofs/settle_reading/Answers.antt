use Rattle.std.proofs.Common.{rules, ◌≡◌}
use Rattle.settlement.specs.Settle.{at_place}
use Rattle.settlement.proofs.Answers.{read_room, read_refused, read_settled}
use Rattle.settlement.proofs.settle_reading.Goals as goal

pub returns-then-results-ne-RESULTS : goal.returns-then-results-ne-RESULTS
returns-then-results-ne-RESULTS c = rw c.number.ensures (read_room c.args.reading c.args.results.now c.if-results-ne-RESULTS.true)

pub returns-then-number-ne0 : goal.returns-then-number-ne0
returns-then-number-ne0 c =
    read_refused _ _ c.if-results-ne-RESULTS.false c.if-number-ne0.true

pub returns : goal.returns
returns c =
    let e : c.map_err.result ≡ at_place c.args.reading.place c.settle_held.result = search rules in
    rw e (read_settled _ _ c.if-results-ne-RESULTS.false c.if-number-ne0.false _ _ c.settle_held.ensures)
