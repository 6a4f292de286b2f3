use Rattle.std.proofs.Common.{◌≡◌, arith, take}
use Rattle.std.proofs.lemmas.List.{take_all}
use Rattle.hands.specs.Hand.{of_rank, of_suit}
use Rattle.words.proofs.Cards.{few_cards}
use Rattle.names.specs.Pocket.{name_pocket}
use Rattle.names.proofs.pocket_in.Goals as goal

pub returns : goal.returns
unfolding name_pocket
returns c =
    let cs = c.args.cards.now in
    let two = c.requires in
    let all : take 2 cs ≡ cs = take_all 2 cs (omega arith) in
    let word = rw all at c.word_in.ensures.few in
    c.pocket_of_word.ensures (of_rank cs) (of_suit cs) (word (omega arith), omega (arith, few_cards cs)) (rw (all, two) at c.is_suited.ensures)
