-- What a base win at odds above 50 is sure of, and what the third demand says of a round and its results list. Wins and the maximum are
-- dollars, amounts are cents.
-- Assumes nothing.
use Rattle.std.specs.Prelude.{ℕ, ◌+◌, ◌*◌, ◌-◌, ◌/◌, ◌≤◌, ◌<◌, min, ◌≡◌, Bool, true, ◌⊎◌, List, get_or, if◌then◌else◌}
use Rattle.counting.specs.Count.{tally, sum_below}
use Rattle.seating.specs.declared.Table.{Table}
use Rattle.round.specs.declared.Round.{Round}
use Rattle.names.specs.Top.{is_royal}
use Rattle.names.specs.declared.FiveName.TheVariants.{RoyalFlush, StraightFlush}
use Rattle.amounts.specs.Base.{base_wager, hand_of, pooled, win}
use Rattle.results.specs.Results.{maximum, seat_wagers}

-- M: the table's posted largest ante times 1,000 if the seat holds a royal flush, times 5,000 if a straight flush
abbrev pub other_win : Table → Bool → ℕ
other_win t royal = if royal then 1000 * t.largest else 5000 * t.largest

-- the smaller of w and maximum × w ÷ (w + M), rounded down
unfoldable pub floor_of : Table → Bool → ℕ → ℕ
floor_of t royal w = min w (maximum t * w / (w + other_win t royal))

-- what the seat at place k was paid of its win in the pool, in cents, by a results list: its base amount without the wager
unfoldable pub paid_of : Round → List ℕ → ℕ → ℕ
paid_of r amounts k = if pooled r k then get_or amounts (seat_wagers * k) 0 - 100 * base_wager r k else 0

-- how many seats may hold base wins at odds above 50 to 1
abbrev pub most_pooled : ℕ
most_pooled = 2

-- the third demand, of a round and the results list that was given for it
pub record Demand3 (r : Round) (amounts : List ℕ) : Type 0 where
  -- In every settled round at most two seats hold base wins at odds above 50 to 1,
  pub few : tally 7 (pooled r) ≤ most_pooled
  -- with a royal flush or a straight flush.
  pub top : (k : ℕ) → k < 7 → pooled r k ≡ true → (hand_of r k ≡ RoyalFlush) ⊎ (hand_of r k ≡ StraightFlush)
  -- Together those wins are paid no more than the maximum,
  pub together : sum_below 7 (paid_of r amounts) ≤ 100 * maximum r.table
  -- whenever the pool exceeds the maximum, exactly the maximum is paid,
  pub exactly : maximum r.table < sum_below 7 (win r) → sum_below 7 (paid_of r amounts) ≡ 100 * maximum r.table
  -- and neither more than its full win; the wager comes back besides.
  pub no_more : (k : ℕ) → k < 7 → pooled r k ≡ true → paid_of r amounts k ≤ 100 * win r k
  pub wager_back : (k : ℕ) → k < 7 → pooled r k ≡ true → 100 * base_wager r k ≤ get_or amounts (seat_wagers * k) 0
  -- Such a seat, with full win w in dollars, is paid at least the smaller of w and maximum × w ÷ (w + M), rounded down.
  pub floor : (k : ℕ) → k < 7 → pooled r k ≡ true → 100 * floor_of r.table (is_royal (hand_of r k)) (win r k) ≤ paid_of r amounts k
