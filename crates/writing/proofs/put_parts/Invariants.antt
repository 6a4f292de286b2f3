use mathlib.Core.List.{[], ◌∷◌}
use Rattle.dealing.specs.Part.{part_record}
use Rattle.writing.proofs.Stores.{Placed}
use Rattle.writing.proofs.put_parts.Given as goal

abbrev pub invariant-loop-n : goal.invariant-loop-n
invariant-loop-n l = Placed (λ i. part_record l.deck i ∷ []) l.initial.room l.at l.deck.parts l.n l.room l.end
