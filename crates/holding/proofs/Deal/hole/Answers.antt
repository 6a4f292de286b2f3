use Rattle.holding.specs.Deal.{hole}
use Rattle.holding.proofs.Deal.hole.Goals as goal

pub returns : goal.returns
unfolding hole
returns c = simp (c.card_at-2.ensures, c.card_at.ensures, c.hole_at-first.ensures)
