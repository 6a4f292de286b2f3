-- The shares before place k have what falls to them, and those from there on are as they were.
use Prim.Native.Nat.{◌≤◌, ◌<◌}
use mathlib.Core.Path.{refl, ◌∙◌}
use native.Mathlib.Omega.{arith}
use lib.ListN.{length, length-set}
use lib.Seq.{get_or-set_other}
use Rattle.counting.proofs.Fills.{each_none, each_more, each_all}
use Rattle.counting.proofs.Tallies.{total_at}
use Rattle.pool.specs.Standings.{given}
use Rattle.pool.proofs.give.Goals as goal

pub loop-k-init : goal.loop-k-init
loop-k-init c =
    let a = c.args in
    (refl, each_none _ _ a.shares.now refl, λ j h. refl)

pub overflow_add-share : goal.overflow_add-share
overflow_add-share c =
    let old = c.loop-k.invariant.2 c.loop-k.k (omega arith) in
    omega (arith, total_at c.args.shares.now c.loop-k.k, c.dollar_to.ensures.1, c.requires)

pub loop-k-preserved : goal.loop-k-preserved
loop-k-preserved c =
    let a = c.args in
    let k = c.loop-k.k in
    let here : k < length a.shares.now = omega (arith, c.loop-k-test.true, c.loop-k.invariant.0) in
    let old = c.loop-k.invariant.2 k (omega arith) in (
      simp length-set c.loop-k.invariant.0,
      each_more _ _ _ _ _ c.loop-k.invariant.1 here (omega (arith, old, c.dollar_to.ensures.0)),
      λ j h. get_or-set_other c.loop-k.shares k j _ 0 (λ z. omega arith) ∙ c.loop-k.invariant.2 j (omega arith),
    )

pub returns : goal.returns
unfolding given
returns c =
    let all : length c.args.shares.now ≤ c.loop-k.k = omega (arith, c.loop-k-test.false, c.loop-k.invariant.0) in
    each_all _ _ _ _ c.loop-k.invariant.1 all
