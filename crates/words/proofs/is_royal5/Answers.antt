use Prim.Native.Nat.{ℕ, ◌/◌}
use mathlib.Core.Path.{ap, ◌∙◌}
use mathlib.Core.Bool.{not}
use native.Mathlib.Omega.{arith}
use lib.Dec.{eqb}
use Rattle.words.proofs.Lines.{top_begins}
use Rattle.words.proofs.is_royal5.Goals as goal

pub returns : goal.returns
returns c = λ h has. ap (λ (x : ℕ). not (eqb (x / 0x1000000000) 0)) (c.runs.ensures h has) ∙ top_begins 5 9 (omega arith) h
