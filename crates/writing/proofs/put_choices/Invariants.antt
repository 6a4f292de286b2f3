use Rattle.writing.proofs.Stores.{Placed, choice_at}
use Rattle.writing.proofs.put_choices.Given as goal

abbrev pub invariant-loop-i : goal.invariant-loop-i
invariant-loop-i l = Placed (choice_at l.play) l.initial.room l.at 21 l.i l.room l.end
