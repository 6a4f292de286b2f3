-- An answer that goes by whether the number n of a refusal is 0: n is its number, and its values are those that it has where n is 0.
-- Assumes nothing.
use Prim.Native.Nat.{ℕ}
use mathlib.Core.Path.{◌≡◌, refl, sym, ◌∙◌}
use mathlib.Core.Bool.{Bool, true, false}
use mathlib.Core.List.{List, []}
use lib.Dec.{eqb}
use borrow.Author.Tests.{eqb-true}
use Rattle.std.specs.Prelude.{if◌then◌else◌}
use Rattle.counting.specs.Choose.{unless_refused}

module _ {Answer : Type 0} (n : ℕ) (by : Bool → Answer) where
  pub by_number : (number : Answer → ℕ) → number (by true) ≡ 0 → number (by false) ≡ n → number (by (eqb n 0)) ≡ n
  by_number number none some = go (eqb n 0) refl
    where
      go : (b : Bool) → eqb n 0 ≡ b → number (by b) ≡ n
      go true e = none ∙ sym (eqb-true n 0 e)
      go false e = some

  pub by_values : (values : Answer → List ℕ) (given : List ℕ) → values (by true) ≡ given → values (by false) ≡ []
      → values (by (eqb n 0)) ≡ unless_refused n given
  unfolding unless_refused
  by_values values given all none = go (eqb n 0)
    where
      go : (b : Bool) → values (by b) ≡ (if b then given else [])
      go true = all
      go false = none
