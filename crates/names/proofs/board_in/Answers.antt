use Rattle.std.proofs.Common.{◌≡◌, arith, take}
use Rattle.std.proofs.lemmas.List.{take_all}
use Rattle.hands.specs.Hand.{of_rank, of_suit}
use Rattle.words.proofs.Cards.{few_cards}
use Rattle.names.specs.Board.{name_board}
use Rattle.names.proofs.board_in.Goals as goal

pub returns : goal.returns
unfolding name_board
returns c =
    let cs = c.args.cards.now in
    let three = c.requires in
    let all : take 3 cs ≡ cs = take_all 3 cs (omega arith) in
    let word = rw all at c.word_in.ensures.few in
    c.board_of_word.ensures (of_rank cs) (of_suit cs) (word (omega arith), omega (arith, few_cards cs)) (rw (all, three) at c.is_suited.ensures)
