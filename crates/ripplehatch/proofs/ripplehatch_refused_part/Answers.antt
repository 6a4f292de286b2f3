use mathlib.Core.Path.{refl, sym, subst}
use native.Mathlib.Omega.{arith}
use Rattle.reading.proofs.Readings.{read_place_lem}
use Prim.Native.Nat.{◌≤◌, ◌*◌}
use lib.ListN.{length}
use Rattle.ripplehatch.proofs.ripplehatch_refused_part.Goals as goal

pub overflow_mul-result : goal.overflow_mul-result
overflow_mul-result c = let file = c.args.file.now in let h : 16 * c.read_file-reading.result.place ≤ length file = subst (λ w. 16 * w.place ≤ length file) (sym c.read_file-reading.ensures) (read_place_lem file) in omega (arith, h)

pub returns : goal.returns
returns c = record {
  begins = simp c.read_file-reading.ensures refl;
  long = simp c.refused_part.ensures.contents refl;
}
