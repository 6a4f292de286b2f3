-- The same things in another order.
-- Assumes nothing.
use Rattle.std.specs.Prelude.{List, [], ◌∷◌}

pub data Reordered {A : Type 0} : List A → List A → Type 0 where
  none : Reordered [] []
  keep : {x : A} {xs ys : List A} → Reordered xs ys → Reordered (x ∷ xs) (x ∷ ys)
  swap : {x y : A} {xs : List A} → Reordered (x ∷ y ∷ xs) (y ∷ x ∷ xs)
  then : {xs ys zs : List A} → Reordered xs ys → Reordered ys zs → Reordered xs zs
