use Prim.Native.Nat.{◌≤◌, ◌<◌}
use mathlib.Core.Path.{refl, sym, ◌∙◌}
use native.Mathlib.Omega.{arith}
use lib.ListN.{length, length-map}
use borrow.Author.Rules.{rules}
use Rattle.counting.specs.Count.{total}
use Rattle.counting.proofs.Fills.{fill_none, fill_more, filled}
use Rattle.pool.specs.Pool.{rounded_down, dollars_left}
use Rattle.pool.proofs.Laws.{fit_total}
use Rattle.pool.proofs.Rounded.{rounded_within}
use Rattle.pool.proofs.Standing.{standings-long}
use Rattle.pool.proofs.Shares.{shares_law}
use Rattle.pool.proofs.Dollars.{cut-shares}
use Rattle.pool.proofs.fill.Goals as goal

pub round_down-stand-requires-clause-maximum_bound : goal.round_down-stand-requires-clause-maximum_bound
round_down-stand-requires-clause-maximum_bound c =
    (c.requires.maximum_bound.0, c.if-maximum-pool.true, omega (arith, c.requires.wins_len, c.requires.maximum_bound, fit_total c.args.wins.now c.requires.wins_len.2))

pub total_of-requires : goal.total_of-requires
total_of-requires c =
    let wins = c.args.wins.now in
    let over : c.args.maximum < total wins = rw c.requires.maximum_bound.1 at c.if-maximum-pool.true in
    rw (c.round_down-stand.ensures.list, c.requires.maximum_bound.1) (omega (arith, c.requires.maximum_bound.0, rounded_within c.args.maximum wins over))

pub overflow_sub-left : goal.overflow_sub-left
overflow_sub-left c =
    let wins = c.args.wins.now in
    let over : c.args.maximum < total wins = rw c.requires.maximum_bound.1 at c.if-maximum-pool.true in
    rw (c.total_of.ensures, c.round_down-stand.ensures.list, c.requires.maximum_bound.1) (omega (arith, rounded_within c.args.maximum wins over))

pub give-requires : goal.give-requires
give-requires c =
    let wins = c.args.wins.now in
    let over : c.args.maximum < total wins = rw c.requires.maximum_bound.1 at c.if-maximum-pool.true in
    let r = c.round_down-stand in
    rw (r.ensures.standings, r.ensures.list, c.requires.maximum_bound.1) (
      omega (arith, c.requires.wins_len, length-map wins (rounded_down c.args.maximum (total wins)), standings-long c.args.maximum (total wins) wins (length wins)),
      omega (arith, c.requires.maximum_bound.0, rounded_within c.args.maximum wins over),
    )

pub returns-then-maximum-pool : goal.returns-then-maximum-pool
unfolding dollars_left
returns-then-maximum-pool c =
    let wins = c.args.wins.now in
    let over : c.args.maximum < total wins = rw c.requires.maximum_bound.1 at c.if-maximum-pool.true in
    let r = c.round_down-stand in
    c.give.ensures
    ∙ rw (c.total_of.ensures, r.ensures.standings, r.ensures.list, c.requires.maximum_bound.1) (cut-shares c.args.maximum wins c.requires.wins_len.1 over)

pub loop-i-init : goal.loop-i-init
loop-i-init c =
    let a = c.args in
    fill_none a.wins.now a.shares.now (search rules)

pub loop-i-preserved : goal.loop-i-preserved
loop-i-preserved c = fill_more _ _ _ _ c.loop-i.invariant c.loop-i-test.true refl

pub returns-after-loop-i : goal.returns-after-loop-i
returns-after-loop-i c =
    let full : total c.args.wins.now ≤ c.args.maximum = omega (arith, c.if-maximum-pool.false, c.requires.maximum_bound.1) in
    filled _ _ _ c.loop-i.invariant c.loop-i-test.false ∙ sym ((shares_law c.args.maximum c.args.wins.now).in_full full)
