use Rattle.std.proofs.Common.{◌≡◌, length, arith, rules}
use Rattle.hands.specs.Hand.{of_rank}
use Rattle.words.proofs.Cards.{few_cards, five_ranks}
use Rattle.words.proofs.are_five.Goals as goal

pub returns : goal.returns
returns c =
    let cards = c.args.cards.now in
    let five : length cards ≡ 5 = search rules in
    simp (c.largest.ensures, c.is_apart.ensures (of_rank cards) (c.word_in.ensures.few (omega arith), omega (arith, few_cards cards))) (five_ranks cards five)
