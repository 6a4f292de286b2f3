use borrow.Author.Tests.{eq-eqb, ne_eqb}
use native.Mathlib.Nat.{zero-add}
use Rattle.holding.specs.Deal.{dealers_first}
use Rattle.holding.proofs.Deal.hole_at.Goals as goal

pub returns-then-self-eq0 : goal.returns-then-self-eq0
unfolding dealers_first
returns-then-self-eq0 c = simp (eq-eqb _ _ c.if-self-eq0.true, c.playing_before.ensures, zero-add)

pub returns-else-self-eq0 : goal.returns-else-self-eq0
unfolding dealers_first
returns-else-self-eq0 c = simp (ne_eqb _ _ c.if-self-eq0.false, c.playing_before.ensures)
