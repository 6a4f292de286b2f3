-- The numbers of the first k columns, one column more at a time.
-- Assumes nothing.
use Prim.Native.Nat.{ℕ, ◌+◌, ◌<◌}
use mathlib.Core.Path.{◌≡◌, refl, ap, ◌∙◌, sym}
use mathlib.Core.Bool.{Bool, true, false}
use mathlib.Core.List.{List}
use native.Mathlib.Omega.{arith}
use lib.Dec.{eqb}
use lib.ListN.{length, get_or, set}
use lib.Seq.{get_or-set_same, get_or-set_other}
use borrow.Author.Tests.{eqb-true, eqb-false}
use Rattle.columns.specs.Columns.{number_at}

abbrev pub Read : List ℕ → List ℕ → ℕ → Type 0
Read line numbers k = (j : ℕ) → j < k → get_or numbers j 0 ≡ number_at line j

pub read_more : (line numbers : List ℕ) (k : ℕ) → k < length numbers → Read line numbers k → Read line (set numbers k (number_at line k)) (k + 1)
read_more line numbers k h r j q = go _ refl
  where
    go : (t : Bool) → eqb j k ≡ t → get_or (set numbers k (number_at line k)) j 0 ≡ number_at line j
    go true e =
        let i = eqb-true j k e in
        ap (λ (n : ℕ). get_or (set numbers k (number_at line k)) n 0) i ∙ get_or-set_same numbers k (number_at line k) 0 h ∙ ap (number_at line) (sym i)
    go false e = let d = eqb-false j k e in get_or-set_other numbers k j (number_at line k) 0 d ∙ r j (omega arith)
