use Prim.Native.Nat.{ℕ}
use mathlib.Core.Bool.{Bool}
use native.Mathlib.Omega.{arith}
use lib.Dec.{ltb}
use lib.ListN.{get_or}
use Rattle.counting.proofs.Ranges.{tally-none, tally_step, tally-done}
use Rattle.counting.specs.Count.{above}
use Rattle.counting.proofs.above_of.Goals as goal

pub loop-number-init : goal.loop-number-init
loop-number-init c = tally-none _ _

pub overflow_add-count : goal.overflow_add-count
overflow_add-count c = omega (arith, c.one_where-count.ensures.1)

pub loop-number-preserved : goal.loop-number-preserved
loop-number-preserved c =
    let a = c.args in
    let f : ℕ → Bool = λ i. ltb a.own (get_or a.numbers.now i 0) in
    omega (arith, c.one_where-count.ensures, tally_step f c.loop-number.number-index)

pub returns : goal.returns
unfolding above
returns c = tally-done _ _ _ _ c.loop-number.invariant c.loop-number-test.false
