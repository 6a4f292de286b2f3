use Rattle.std.proofs.Common.{◌≡◌, arith, take}
use Rattle.std.proofs.lemmas.List.{take_all}
use Rattle.hands.specs.Hand.{of_rank, of_suit}
use Rattle.words.proofs.Cards.{few_cards}
use Rattle.names.specs.Five.{name_five}
use Rattle.names.proofs.five_in.Goals as goal

pub returns : goal.returns
unfolding name_five
returns c =
    let cs = c.args.cards.now in
    let five = c.requires in
    let all : take 5 cs ≡ cs = take_all 5 cs (omega arith) in
    let word = rw all at c.word_in.ensures.few in
    c.five_of_word.ensures (of_rank cs) (of_suit cs) (word (omega arith), omega (arith, few_cards cs)) (rw (all, five) at c.is_suited.ensures)
