-- What an answer gives: a number of its name, and nothing where it is refused. (place is what gives a name's number.)
-- Assumes nothing.
use Rattle.std.specs.Prelude.{ℕ, List, [], ◌∷◌, Result, Ok, Err}
use Rattle.causes.specs.declared.Refusal.{Refusal}

-- an answer's values: the name's number; a refusal has none
abbrev pub values_of : {Name : Type 0} → (Name → ℕ) → Result Name Refusal → List ℕ
values_of place (Ok name) = place name ∷ []
values_of place (Err refusal) = []

-- what is told of a name to one who lends a number for it; of a refusal nothing, and the number is what it was
abbrev pub told : {Name : Type 0} → (Name → ℕ) → Result Name Refusal → ℕ → ℕ
told place (Ok name) was = place name
told place (Err refusal) was = was
