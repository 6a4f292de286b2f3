use mathlib.Core.Path.{ap, ◌∙◌}
use Rattle.shifts.specs.Shift.{round_amounts, round_answer}
use Rattle.shifts.proofs.Turns.{settling_none, settling_next, settling_more, settling_all}
use Rattle.shifts.proofs.settle_rounds.Goals as goal

pub loop-k-init : goal.loop-k-init
loop-k-init c =
    let p = c.requires in
    settling_none _ _ _ (rw p.0 at p.1) (rw p.0 at p.2)

pub split_at-requires : goal.split_at-requires
split_at-requires c = (settling_next _ _ _ _ _ c.loop-k.invariant _ c.first_round.ensures (rw c.requires.0 at c.loop-k-test.true)).0

pub loop-k-preserved : goal.loop-k-preserved
loop-k-preserved c =
    let v = c.loop-k.invariant in
    let next = settling_next _ _ _ _ _ v _ c.first_round.ensures (rw c.requires.0 at c.loop-k-test.true) in
    let s = c.settle_one.ensures in
    let cut = c.split_at.ensures in
    settling_more _ _ _ _ _ v _ _ _ _ next (s.amounts ∙ ap round_amounts cut.front) (s.answer ∙ ap round_answer cut.front) cut.back

pub returns : goal.returns
returns c =
    let both = settling_all _ _ _ _ _ c.loop-k.invariant (rw c.requires.0 at c.loop-k-test.false) in
    record { amounts = both.0; answers = both.1 }
