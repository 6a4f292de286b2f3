use Prim.Native.Nat.{◌≤◌}
use native.Mathlib.Nat.{zero-min, mul-le-mul}
use native.Mathlib.Omega.{arith}
use Rattle.demands.specs.Floor.{floor_of}
use borrow.Author.Rules.{rules}
use Rattle.demands.proofs.sure_of.Goals as goal

pub returns-then-win-eq0 : goal.returns-then-win-eq0
unfolding floor_of
returns-then-win-eq0 c = rw (c.if-win-eq0.true, zero-min)

pub overflow_mul-part : goal.overflow_mul-part
overflow_mul-part c =
    let few : c.maximum_of-most.result ≤ 1275000 = omega (arith, c.maximum_of-most.ensures) in
    let low : c.args.win ≤ 4294967295 = search rules in
    omega (arith, mul-le-mul few low)

pub returns : goal.returns
unfolding floor_of
returns c = simp (c.min.ensures, c.other_win-other.ensures, c.maximum_of-most.ensures)
