-- A number between two others, as a test and as facts.
-- Assumes nothing.
use Prim.Native.Nat.{ℕ, ◌≤◌}
use mathlib.Core.Path.{◌≡◌}
use mathlib.Core.Bool.{true}
use lib.Dec.{leb}
use borrow.Author.Tests.{leb-true, le-leb}
use Rattle.records.specs.Bytes.{between}
use Rattle.counting.proofs.Tests.{and_true, both}

pub between_true : (low high n : ℕ) → between low high n ≡ true → (low ≤ n) × (n ≤ high)
between_true low high n e =
    let p = and_true (leb low n) (leb n high) e in
    (leb-true low n p.0, leb-true n high p.1)

pub is_between : (low high n : ℕ) → low ≤ n → n ≤ high → between low high n ≡ true
is_between low high n p q = both (leb low n) (leb n high) (le-leb low n p) (le-leb n high q)
