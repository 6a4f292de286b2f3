use Rattle.writing.proofs.Stores.{placed-none, placed_room, placed_more}
use Rattle.writing.proofs.put_seats.Goals as goal

pub loop-k-init : goal.loop-k-init
loop-k-init c = placed-none _ _ _ 7

pub put-end-requires : goal.put-end-requires
put-end-requires c = rw c.seat_record.ensures (placed_room _ _ _ 7 _ _ _ c.loop-k.invariant c.loop-k-test.true c.requires.1)

pub loop-k-preserved : goal.loop-k-preserved
loop-k-preserved c = placed_more _ _ _ 7 _ _ _ c.loop-k.invariant c.loop-k-test.true _ _ (rw c.seat_record.ensures at c.put-end.ensures)
