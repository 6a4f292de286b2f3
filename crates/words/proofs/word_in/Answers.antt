use Rattle.std.proofs.Common.{◌≡◌, arith, take, refl, ap}
use Rattle.std.proofs.lemmas.List.{take_all}
use Rattle.hands.specs.Hand.{of_rank}
use Rattle.counting.specs.Count.{count}
use Rattle.words.specs.Word.{digits, word}
use Rattle.words.proofs.Cards.{word_next, word-most}
use Rattle.words.proofs.word_in.Goals as goal

pub loop-card-init : goal.loop-card-init
unfolding of_rank digits count
loop-card-init c = refl

pub loop-card-preserved : goal.loop-card-preserved
loop-card-preserved c = omega (arith, word_next c.args.cards.now c.loop-card.card-index c.loop-card-test.true, c.loop-card.invariant, c.word1-word.ensures)

pub returns-clause-few : goal.returns-clause-few
returns-clause-few c = λ few.
    let cards = c.args.cards.now in
    let all : take c.loop-card.card-index cards ≡ cards = take_all _ _ c.loop-card-test.false in
    omega (arith, word-most cards, c.loop-card.invariant, ap (λ l. word (of_rank l)) all, few)
