use Prim.Native.Nat.{ℕ}
use mathlib.Core.Path.{ap, ◌∙◌}
use mathlib.Core.Bool.{not}
use lib.Dec.{eqb}
use Rattle.words.proofs.Lines.{straight_begins}
use Rattle.words.proofs.is_straight3.Goals as goal

pub returns : goal.returns
returns c = λ h has. ap (λ (x : ℕ). not (eqb x 0)) (c.runs.ensures h has) ∙ straight_begins 3 h
