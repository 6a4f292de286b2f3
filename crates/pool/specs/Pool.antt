-- The round maximum: how a pool of wins is shared. Wins, shares and the maximum are whole dollars.
-- Assumes nothing.
use Rattle.std.specs.Prelude.{ℕ, ◌+◌, ◌*◌, ◌-◌, ◌/◌, ◌%◌, Bool, not, ◌&&◌, ◌||◌, List, map, eqb, leb, ltb, length, get_or, replicate, Result, if◌then◌else◌}
use Rattle.counting.specs.Choose.{one}
use Rattle.counting.specs.Count.{tally, every_of, total, each}
use Rattle.causes.specs.declared.Refusal.{Refusal}
use Rattle.causes.specs.Refusal.{answered}
use Rattle.pool.specs.declared.Shared.{Shared}
use Rattle.pool.specs.declared.Shared.TheVariants.{Full, Cut}
use Rattle.pool.specs.declared.Pool.{Pool}

-- ---- A pool above the maximum: each gets maximum × its win ÷ total, which is whole dollars and a fraction of one.
-- The house's own example, wins of 20,000, 10,000 and 500 under 25,000: 16,393 dollars and 13,500 parts of 30,500; 8,196 and 22,000; 409 and
-- 25,500. Two dollars are left. The third win stands first and the second next, so these get one each: 16,393, 8,197 and 410.

-- the share rounded down to a dollar
abbrev pub rounded_down : ℕ → ℕ → ℕ → ℕ
rounded_down maximum pool win = maximum * win / pool

-- The fraction that this leaves: the remainder, so many parts of the total. Two fractions of one pool are compared by it exactly.
abbrev pub fraction : ℕ → ℕ → ℕ → ℕ
fraction maximum pool win = maximum * win % pool

-- how many dollars of the maximum are left after rounding down
unfoldable pub dollars_left : ℕ → List ℕ → ℕ
dollars_left maximum wins = maximum - total (map (rounded_down maximum (total wins)) wins)

-- the fraction of the win at place k
abbrev pub fraction_at : ℕ → List ℕ → ℕ → ℕ
fraction_at maximum wins k = fraction maximum (total wins) (get_or wins k 0)

-- Who stands before whom: the win at place j before the one at place k where its fraction is larger, and of equal fractions where
-- its place is earlier.
abbrev pub stands_before : ℕ → List ℕ → ℕ → ℕ → Bool
stands_before maximum wins j k =
    ltb (fraction_at maximum wins k) (fraction_at maximum wins j)
    || (eqb (fraction_at maximum wins k) (fraction_at maximum wins j) && ltb j k)

-- how many stand before the win at place k
unfoldable pub ahead : ℕ → List ℕ → ℕ → ℕ
ahead maximum wins k = tally (length wins) (λ j. stands_before maximum wins j k)

-- The dollars left go one each to the largest fractions, ties to the earlier place: to a win with fewer before it than there are dollars.
unfoldable pub gets_one : ℕ → List ℕ → ℕ → Bool
gets_one maximum wins k = ltb (ahead maximum wins k) (dollars_left maximum wins)

-- ---- If the pool's total is at most the maximum, all are paid in full. Otherwise each gets its share rounded down, and the dollar that falls to it.

unfoldable pub share_of : ℕ → List ℕ → ℕ → ℕ
share_of maximum wins k =
    if leb (total wins) maximum then get_or wins k 0
    else rounded_down maximum (total wins) (get_or wins k 0) + one (gets_one maximum wins k)

unfoldable pub shares_of : ℕ → List ℕ → List ℕ
shares_of maximum wins = each (length wins) (share_of maximum wins)

-- no win is above 500,000
unfoldable pub wins_fit : List ℕ → Bool
wins_fit wins = every_of (λ win. leb win 500000) wins

-- The number of the refusal, 0 where there is none. 19: sharing lists differ in length or exceed 7. 20: a win or the maximum is
-- above its limit. (room: how long the list for the shares is.)
unfoldable pub share_refusal : List ℕ → ℕ → ℕ → ℕ
share_refusal wins maximum room =
    if not (eqb (length wins) room) || ltb 7 (length wins) then 19
    else if not (wins_fit wins) || ltb 75000 maximum then 20
    else 0

-- what is answered on any input: refused, or shared, with all paid in full or cut to their shares
unfoldable pub share_answer : List ℕ → ℕ → ℕ → Result Shared Refusal
share_answer wins maximum room = answered (share_refusal wins maximum room) (if leb (total wins) maximum then Full else Cut)

-- what the lent list then holds, on any input: a refusal leaves it as it was
unfoldable pub share_list : List ℕ → ℕ → List ℕ → List ℕ
share_list wins maximum lent =
    if not (eqb (share_refusal wins maximum (length lent)) 0) then lent
    else shares_of maximum wins

-- ---- seven wins by value

-- the total of the wins in full and as paid, and each share
abbrev pub shared_pool : List ℕ → ℕ → Pool
shared_pool wins maximum = record { number = 0; full = total wins; paid = total (shares_of maximum wins); shares = shares_of maximum wins }

-- where the sharing is refused, nothing is in the pool
abbrev pub refused_pool : ℕ → Pool
refused_pool number = record { number = number; full = 0; paid = 0; shares = replicate 7 0 }

unfoldable pub pool_of : List ℕ → ℕ → Pool
pool_of wins maximum =
    if not (eqb (share_refusal wins maximum 7) 0) then refused_pool (share_refusal wins maximum 7)
    else shared_pool wins maximum
