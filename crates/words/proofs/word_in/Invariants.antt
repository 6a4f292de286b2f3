use Rattle.std.proofs.Common.{◌≡◌, ◌%◌, ◌^◌, take}
use Rattle.hands.specs.Hand.{of_rank}
use Rattle.words.specs.Word.{word}
use Rattle.words.proofs.word_in.Given as goal

abbrev pub invariant-loop-card : goal.invariant-loop-card
invariant-loop-card l = l.word ≡ word (of_rank (take l.card-index l.cards)) % 2 ^ 64
