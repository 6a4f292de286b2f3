-- How many characters come before a newline, in the library's words; and that a line ends within the text.
-- Assumes nothing.
use Prim.Native.Nat.{ℕ, suc, ◌+◌, ◌≤◌}
use mathlib.Core.Path.{◌≡◌, refl, ap, ◌∙◌}
use mathlib.Core.Bool.{Bool, true, false}
use mathlib.Core.List.{List, [], ◌∷◌}
use native.Mathlib.Omega.{arith}
use lib.Dec.{eqb}
use lib.ListN.{length, take, drop, length-drop}
use Rattle.std.specs.Prelude.{if◌then◌else◌, cond, not}
use Rattle.std.specs.List.{prefix_len}
use Rattle.std.proofs.lemmas.List.Folds.{length-prefix_len}
use Rattle.columns.specs.Columns.{before_newline, line_end}

newline_prefix : (t : List ℕ) → prefix_len (λ c. not (eqb c 10)) t ≡ before_newline t
unfolding before_newline
newline_prefix [] = refl
newline_prefix (c ∷ cs) = go (eqb c 10) (newline_prefix cs)
  where
    go : (t : Bool) → prefix_len (λ c. not (eqb c 10)) cs ≡ before_newline cs
        → cond (not t) (1 + prefix_len (λ c. not (eqb c 10)) cs) 0 ≡ (if t then 0 else 1 + before_newline cs)
    go true e = refl
    go false e = ap (λ (n : ℕ). 1 + n) e

-- the characters that are taken while none is a newline
pub newline_at : (t : List ℕ) → length (take (prefix_len (λ c. not (eqb c 10)) t) t) ≡ before_newline t
newline_at t = length-prefix_len (λ c. not (eqb c 10)) t ∙ newline_prefix t

within : (t : Bool) (n m : ℕ) → n ≤ m → (if t then 0 else 1 + n) ≤ suc m
within true n m h = omega arith
within false n m h = omega arith

before_within : (t : List ℕ) → before_newline t ≤ length t
unfolding before_newline
before_within [] = omega arith
before_within (c ∷ cs) = within (eqb c 10) (before_newline cs) (length cs) (before_within cs)

pub line_within : (t : List ℕ) (from : ℕ) → from ≤ length t → line_end t from ≤ length t
line_within t from h = omega (arith, before_within (drop from t), length-drop from t)
