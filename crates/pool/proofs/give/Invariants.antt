-- The shares before place k have what falls to them, and those from there on are as they were.
use Prim.Native.Nat.{ℕ, ◌+◌, ◌≤◌}
use mathlib.Core.Path.{◌≡◌}
use mathlib.Core.List.{List}
use lib.ListN.{length, get_or}
use Rattle.counting.specs.Choose.{one}
use Rattle.counting.specs.Count.{each}
use Rattle.counting.proofs.Fills.{Filled}
use Rattle.pool.specs.Standings.{gets_dollar}
use Rattle.pool.proofs.give.Given as goal

abbrev with-dollar : ℕ → List ℕ → List ℕ → ℕ → ℕ
with-dollar left stand shares k = get_or shares k 0 + one (gets_dollar left stand (get_or stand k 0))

abbrev pub invariant-loop-k : goal.invariant-loop-k
invariant-loop-k l =
    (length l.shares ≡ length l.initial.shares)
    × Filled (each (length l.initial.shares) (with-dollar l.left l.stand l.initial.shares)) l.shares l.k
    × ((j : ℕ) → l.k ≤ j → get_or l.shares j 0 ≡ get_or l.initial.shares j 0)
