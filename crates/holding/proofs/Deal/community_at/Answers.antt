use borrow.Author.Tests.{eq-eqb, ne_eqb}
use Rattle.holding.specs.Deal.{community_at}
use Rattle.holding.proofs.Deal.community_at.Goals as goal

pub returns-then-self-eq0 : goal.returns-then-self-eq0
unfolding community_at
returns-then-self-eq0 c = simp (eq-eqb _ _ c.if-self-eq0.true, c.playing_before.ensures)

pub returns-else-self-eq0 : goal.returns-else-self-eq0
unfolding community_at
returns-else-self-eq0 c = simp (ne_eqb _ _ c.if-self-eq0.false)
