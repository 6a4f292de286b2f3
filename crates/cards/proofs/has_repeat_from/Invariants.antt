-- Outer loop: none of the places from `from` to below i repeats an earlier one. Inner loop: besides, place i differs from each place below j.
use mathlib.Core.Path.{◌≡◌}
use mathlib.Core.Bool.{false}
use Rattle.counting.specs.Count.{some_below}
use Rattle.cards.specs.Deck.{same_at}
use Rattle.cards.proofs.Repeats.{NewTo}
use Rattle.cards.proofs.has_repeat_from.Given as goal

abbrev pub invariant-loop-j : goal.invariant-loop-j
invariant-loop-j l = (l.found ≡ false) × NewTo l.from l.cards l.i × (some_below l.j (same_at l.cards l.i) ≡ false)

abbrev pub invariant-places : goal.invariant-places
invariant-places l = (l.found ≡ false) × NewTo l.from l.cards l.i
