use native.Mathlib.Omega.{arith}
use Rattle.dealing.proofs.Parts.{parts_le}
use Rattle.led.proofs.Kept.{held_fits}
use Rattle.writing.proofs.Stores.{placed-none, placed_room, placed_more}
use Rattle.writing.proofs.put_parts.Goals as goal

pub loop-n-init : goal.loop-n-init
loop-n-init c = placed-none _ _ _ _

pub part_record-requires : goal.part_record-requires
part_record-requires c = omega (arith, parts_le _ (held_fits _ c.requires.0).deck, c.loop-n-test.true)

pub put-end-requires : goal.put-end-requires
put-end-requires c = rw c.part_record.ensures (placed_room _ _ _ _ _ _ _ c.loop-n.invariant c.loop-n-test.true c.requires.1)

pub loop-n-preserved : goal.loop-n-preserved
loop-n-preserved c = placed_more _ _ _ _ _ _ _ c.loop-n.invariant c.loop-n-test.true _ _ (rw c.part_record.ensures at c.put-end.ensures)
