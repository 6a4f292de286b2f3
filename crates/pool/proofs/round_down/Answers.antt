-- The shares stored, then those of what is left, are the shares of all; and so are the standings.
use Prim.Native.Nat.{ℕ, ◌≤◌, ◌<◌}
use mathlib.Core.Path.{◌≡◌, refl, ap, sym, ◌∙◌}
use mathlib.Core.List.{List}
use native.Mathlib.Nat.{mul-le-mul}
use native.Mathlib.Omega.{arith}
use lib.ListN.{length, get_or, set, length-set, length-map}
use borrow.Author.Rules.{rules}
use borrow.Author.Tests.{leb-true}
use Rattle.counting.proofs.Fills.{fill_none, fill_more}
use Rattle.counting.proofs.Lists.{every_of_at}
use Rattle.pool.specs.Pool.{rounded_down, fraction, wins_fit}
use Rattle.pool.specs.Standings.{standing}
use Rattle.pool.proofs.Rounded.{rounded_at_lem}
use Rattle.pool.proofs.Standing.{standings-none, standings_more}
use Rattle.pool.proofs.round_down.Goals as goal

pub loop-i-init : goal.loop-i-init
loop-i-init c =
    let a = c.args in
    let long : length a.shares.now ≡ length a.wins.now = search rules in (
      long,
      fill_none _ a.shares.now (long ∙ sym (length-map a.wins.now (rounded_down a.maximum a.pool))),
      standings-none _ _ _,
    )

pub overflow_mul-product : goal.overflow_mul-product
unfolding wins_fit
overflow_mul-product c =
    let win : get_or c.args.wins.now c.loop-i.i 0 ≤ 500000 = leb-true _ _ (every_of_at _ _ c.requires.wins_len.2 _ c.loop-i-test.true) in
    omega (arith, mul-le-mul c.requires.maximum_bound.0 win)

pub loop-i-preserved : goal.loop-i-preserved
loop-i-preserved c =
    let wins = c.args.wins.now in
    let i = c.loop-i.i in
    let here : i < length wins = c.loop-i-test.true in
    let share = sym (rounded_at_lem c.args.maximum c.args.pool wins i c.requires.maximum_bound.1) in
    let own = standing (fraction c.args.maximum c.args.pool (get_or wins i 0)) i in (
      simp length-set c.loop-i.invariant.0,
      fill_more _ _ _ _ c.loop-i.invariant.1 (rw (length-map wins (rounded_down c.args.maximum c.args.pool)) here) share,
      ap (λ (x : List ℕ). set x i own) c.loop-i.invariant.2 ∙ standings_more c.args.maximum c.args.pool wins i own (omega (arith, c.requires.wins_len)) refl,
    )
