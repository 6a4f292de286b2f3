use Rattle.std.proofs.Common.{arith, refl}
use Rattle.words.proofs.Lines.{meet, meet_more, runs_in}
use Rattle.words.proofs.runs.Goals as goal

pub loop-i-init : goal.loop-i-init
unfolding meet
loop-i-init c = refl

pub loop-i-preserved : goal.loop-i-preserved
loop-i-preserved c = meet_more c.loop-i.i c.line_of-line.result _ c.loop-i.auto.i c.loop-i.invariant

pub returns : goal.returns
returns c = λ h has.
    let few = c.requires in
    let end = c.loop-i.auto.i-end (omega arith) in
    runs_in c.args.n c.loop-i.i _ h few.0 few.1 c.loop-i-test.false end has.1 (c.line_of-line.ensures h (has.0, omega (arith, has.1))) _ c.loop-i.invariant
