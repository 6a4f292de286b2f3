use native.Mathlib.Omega.{arith}
use Rattle.results.proofs.Judging.{share_there, base_with, base-without}
use Rattle.results.proofs.base_amount.Goals as goal

pub overflow_add-result : goal.overflow_add-result
overflow_add-result c = omega (arith, share_there _ _ _ c.requires.0 c.requires.1)

pub overflow_mul-result : goal.overflow_mul-result
overflow_mul-result c = omega (arith, share_there _ _ _ c.requires.0 c.requires.1)

pub returns-then-judged-place-gt0 : goal.returns-then-judged-place-gt0
returns-then-judged-place-gt0 c =
    rw c.base_wager.ensures (base_with _ _ _ c.requires.0 c.requires.1 c.if-judged-place-gt0.true)

pub returns : goal.returns
returns c = base-without _ _ _ c.requires.0 c.requires.1 c.if-judged-place-gt0.false
