-- The pool and the results list of a round. The maximum and the pool are dollars, amounts are cents.
-- Assumes nothing.
use Rattle.std.specs.Prelude.{ℕ, ◌+◌, ◌*◌, List, [], ◌∷◌, get_or}
use Rattle.counting.specs.Count.{gather}
use Rattle.seating.specs.declared.Table.{Table}
use Rattle.round.specs.declared.Round.{Round}
use Rattle.pool.specs.declared.Pool.{Pool}
use Rattle.pool.specs.Pool.{pool_of}
use Rattle.amounts.specs.Base.{wins, kept, bases_of}
use Rattle.amounts.specs.Sides.{board_pay_of, board_amount, pocket_amount, lo_amount, six_amount}
use Rattle.results.specs.declared.Results.{Results}
use Rattle.results.specs.declared.Judged.{Judged}
use Rattle.results.specs.declared.Amounts.{Amounts}

-- The round maximum is 5,000 × the smallest ante.
abbrev pub maximum : Table → ℕ
maximum t = 5000 * t.smallest

-- the round's wins, shared
unfoldable pub pool : Round → Pool
pool r = pool_of (wins r) (maximum r.table)

-- Wagers come back besides the share. A seat that has no win in the pool has no share of it.
unfoldable pub base_amount : Round → ℕ → ℕ
base_amount r k = kept r k + 100 * get_or (pool r).shares k 0

-- how many amounts a seat has
abbrev pub seat_wagers : ℕ
seat_wagers = 5

-- in the order base, Board, Pocket, Lo Ball, All-Six
unfoldable pub seat_amounts : Round → ℕ → List ℕ
seat_amounts r k = base_amount r k ∷ board_amount r k ∷ pocket_amount r k ∷ lo_amount r k ∷ six_amount r k ∷ []

-- The results list has 35 numbers: five a seat, seats 1 to 7.
abbrev pub results_long : ℕ
results_long = seat_wagers * 7

unfoldable pub results : Round → List ℕ
results r = gather 7 (seat_amounts r)

-- ---- the same as the code hands it on

-- what is worked out once for all seats, and the amounts of one
abbrev pub judged_of : Round → Judged
judged_of r = record { bases = bases_of r; pool = pool r; board = board_pay_of r }

abbrev pub amounts_of : Round → ℕ → Amounts
amounts_of r k = record { base = base_amount r k; board = board_amount r k; pocket = pocket_amount r k; lo = lo_amount r k; six = six_amount r k }

-- the pool, full and as paid, and the results list
abbrev pub results_of : Round → Results
results_of r = record { full = (pool r).full; paid = (pool r).paid; amounts = results r }
