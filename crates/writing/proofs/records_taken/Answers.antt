use Rattle.std.proofs.Common.{ap, arith}
use Rattle.counting.specs.Choose.{one}
use Rattle.counting.specs.Count.{sum_below}
use Rattle.counting.proofs.Tests.{one_le}
use Rattle.counting.proofs.Ranges.{tally_le}
use Rattle.records.specs.Seats.{plays}
use Rattle.holding.specs.Deal.{playing_before}
use Rattle.choosing.specs.Streets.{choices_taken}
use Rattle.led.specs.Records.{records_taken}
use Rattle.writing.proofs.records_taken.Goals as goal

pub returns-clause-taken : goal.returns-clause-taken
unfolding records_taken choices_taken sum_below playing_before
returns-clause-taken c =
    omega (arith, c.playing_before-seats.ensures, c.choices_on.ensures.choices, c.choices_on-2.ensures.choices, c.choices_on-3.ensures.choices, ap one c.is_read.ensures)

pub returns-clause-most : goal.returns-clause-most
unfolding playing_before
returns-clause-most c =
    omega (arith, one_le c.is_read.result, c.playing_before-seats.ensures, tally_le 7 (plays c.args.round.wagers.antes), c.choices_on.ensures.most, c.choices_on-2.ensures.most, c.choices_on-3.ensures.most)
