-- The shares stored, then those of what is left, are the shares of all; and so are the standings.
use mathlib.Core.Path.{◌≡◌}
use mathlib.Core.List.{map}
use lib.ListN.{length}
use Rattle.counting.proofs.Fills.{Filled}
use Rattle.pool.specs.Pool.{rounded_down}
use Rattle.pool.specs.Standings.{standings}
use Rattle.pool.proofs.round_down.Given as goal

abbrev pub invariant-loop-i : goal.invariant-loop-i
invariant-loop-i l =
    (length l.shares ≡ length l.wins)
    × Filled (map (rounded_down l.maximum l.pool) l.wins) l.shares l.i
    × (l.stand ≡ standings l.maximum l.pool l.wins l.i)
