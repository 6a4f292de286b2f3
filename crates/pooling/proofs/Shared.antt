-- The pool of a round that accepted records lead to is within the pool's limits, so it is shared; its shares keep the laws `Shares`, and only
-- these are used above.
-- Assumes nothing.
use Prim.Native.Nat.{◌≤◌}
use mathlib.Core.Path.{◌≡◌, refl}
use native.Mathlib.Omega.{arith}
use lib.ListN.{length}
use Rattle.counting.specs.Count.{total}
use Rattle.counting.proofs.Gathers.{each-length}
use Rattle.seating.proofs.Tables.{table_high}
use Rattle.round.specs.declared.Round.{Round}
use Rattle.led.specs.Led.{Led}
use Rattle.led.proofs.Kept.{led_fits}
use Rattle.pool.specs.Pool.{shared_pool}
use Rattle.pool.specs.Shares.{Shares}
use Rattle.pool.proofs.Shares.{shares_law, fits}
use Rattle.pool.proofs.Pools.{all_within, pool_shared}
use Rattle.amounts.specs.Base.{win, wins}
use Rattle.results.specs.Results.{maximum, pool}
use Rattle.pooling.proofs.Pooled.{wins_fit_lem}

pub wins-long : (r : Round) → length (wins r) ≡ 7
unfolding wins
wins-long r = each-length (win r) 7

module _ (r : Round) (l : Led r) where
  all_shared : pool r ≡ shared_pool (wins r) (maximum r.table)
  unfolding pool
  all_shared =
      let high = table_high r.table (led_fits r l).table in
      pool_shared (wins r) (maximum r.table) (fits (wins r) (maximum r.table) 7 (omega (arith, wins-long r)) (wins-long r) (wins_fit_lem r l) (omega arith))

  -- it is not refused, and these are its totals
  pub pool_totals : ((pool r).number ≡ 0) × ((pool r).full ≡ total (wins r)) × ((pool r).paid ≡ total (pool r).shares)
  pool_totals = rw all_shared (refl, refl, refl)

  pub shared : Shares (maximum r.table) (wins r) (pool r).shares
  shared = rw all_shared (shares_law (maximum r.table) (wins r))

  pub shares_within : total (pool r).shares ≤ maximum r.table
  shares_within = all_within (maximum r.table) (wins r) (pool r).shares shared
