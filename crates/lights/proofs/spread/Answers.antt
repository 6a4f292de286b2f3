use Prim.Native.Nat.{◌*◌, ◌%◌, ◌^◌}
use native.Mathlib.Nat.{mod-le}
use native.Mathlib.Omega.{arith}
use Rattle.lights.proofs.Sums.{spread_out, spread_none, power}
use Rattle.lights.proofs.spread.Goals as goal

pub nonzero_rem-result : goal.nonzero_rem-result
nonzero_rem-result c = let a = c.args in omega (arith, power a.out c.if-out-le4.true)

pub overflow_sub-result : goal.overflow_sub-result
overflow_sub-result c = let a = c.args in omega (arith, mod-le (a.own % 32) (1 * 2 ^ a.out % 256))

pub returns-then-out-le4 : goal.returns-then-out-le4
returns-then-out-le4 c = let v = c.args in λ f a b d e g sum. spread_out f a b d e g v.own sum v.out c.if-out-le4.true

pub returns : goal.returns
returns c = let v = c.args in λ f a b d e g sum. spread_none f a b d e g v.own sum v.out c.if-out-le4.false
