use Prim.Native.Nat.{ℕ}
use mathlib.Core.Path.{ap, ◌∙◌}
use mathlib.Core.Bool.{not}
use native.Mathlib.Omega.{arith}
use lib.Dec.{eqb}
use Rattle.words.proofs.Planes.{only_one}
use Rattle.words.proofs.has_four.Goals as goal

pub returns : goal.returns
returns c = λ h has. ap (λ (x : ℕ). not (eqb x 0)) (c.fours.ensures h has) ∙ only_one h 4 (omega arith) has.1
