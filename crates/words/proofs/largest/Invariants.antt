use Rattle.std.proofs.Common.{◌≡◌, max, drop}
use Rattle.words.specs.Word.{largest}
use Rattle.words.proofs.largest.Given as goal

abbrev pub invariant-loop-card : goal.invariant-loop-card
invariant-loop-card l = max l.top (largest (drop l.card-index l.cards)) ≡ largest l.cards
