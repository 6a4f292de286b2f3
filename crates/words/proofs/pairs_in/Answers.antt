use Prim.Native.Nat.{ℕ, ◌%◌}
use mathlib.Core.Path.{ap, ◌∙◌}
use Rattle.words.proofs.Planes.{how_many}
use Rattle.words.proofs.pairs_in.Goals as goal

pub returns : goal.returns
returns c = λ h has. ap (λ (x : ℕ). x % 15) (c.twos.ensures h has) ∙ how_many h 2
