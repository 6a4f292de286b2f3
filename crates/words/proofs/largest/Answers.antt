use Rattle.std.proofs.Common.{arith}
use Rattle.words.proofs.Cards.{largest_step, largest_end}
use Rattle.words.proofs.largest.Goals as goal

pub loop-card-preserved : goal.loop-card-preserved
loop-card-preserved c = omega (arith, c.loop-card.invariant, c.max-top.ensures, largest_step c.args.cards.now c.loop-card.card-index c.loop-card-test.true)

pub returns : goal.returns
returns c = omega (arith, c.loop-card.invariant, largest_end c.args.cards.now c.loop-card.card-index c.loop-card-test.false)
