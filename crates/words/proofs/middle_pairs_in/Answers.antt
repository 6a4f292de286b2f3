use Prim.Native.Nat.{ℕ, ◌/◌, ◌%◌}
use mathlib.Core.Path.{ap, ◌∙◌}
use native.Mathlib.Omega.{arith}
use Rattle.words.proofs.Planes.{part_count}
use Rattle.words.proofs.middle_pairs_in.Goals as goal

pub returns : goal.returns
returns c = λ h has. ap (λ (x : ℕ). x / 0x10000 % 0x100000 % 15) (c.twos.ensures h has) ∙ part_count h 2 4 5 4 (omega arith)
