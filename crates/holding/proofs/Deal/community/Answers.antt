use Rattle.holding.specs.Deal.{community}
use Rattle.holding.proofs.Deal.community.Goals as goal

pub returns : goal.returns
unfolding community
returns c = simp (c.card_at-3.ensures, c.card_at-2.ensures, c.card_at.ensures, c.community_at-first.ensures)
