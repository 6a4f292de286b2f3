use Rattle.holding.specs.Deal.{hole, community, five}
use Rattle.holding.proofs.Deal.five.Goals as goal

pub returns : goal.returns
unfolding hole community five
returns c = simp (c.hole-own.ensures, c.community-board.ensures)
