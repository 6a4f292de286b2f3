use Rattle.holding.specs.Deal.{hole, community, six_card, six_hand}
use Rattle.holding.proofs.Deal.six.Goals as goal

pub returns : goal.returns
unfolding hole community six_card six_hand
returns c = simp (c.hole-own.ensures, c.card_at-card.ensures, c.community_at.ensures, c.community-board.ensures)
