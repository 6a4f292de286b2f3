-- The length of the room is said by a law: counting it out would take as many steps.
use Prim.Native.Nat.{ℕ}
use mathlib.Core.Path.{sym}
use lib.ListN.{length-replicate}
use Rattle.shift.proofs.run.Goals as goal

pub slice_bounds-read_and_settled-end : goal.slice_bounds-read_and_settled-end
slice_bounds-read_and_settled-end g c = sym (length-replicate {A = ℕ} 2162688 0)
