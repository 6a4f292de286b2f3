use mathlib.Core.Path.{refl}
use lib.ListN.{replicate}
use Rattle.results.specs.Results.{results_long}
use Rattle.results.proofs.Filling.{no_seats, next_seat, all_seats}
use Rattle.results.proofs.list_of.Goals as goal

pub loop-k-init : goal.loop-k-init
loop-k-init c = no_seats c.args.round.now (replicate results_long 0) refl

pub loop-k-preserved : goal.loop-k-preserved
loop-k-preserved c = next_seat _ _ _ _ c.loop-k.invariant c.loop-k-test.true c.amounts_of-seat.ensures

pub returns : goal.returns
returns c = all_seats _ _ _ c.loop-k.invariant c.loop-k-test.false
