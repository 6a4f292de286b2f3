-- What later layers need of a led round: its deck, its table, its seats' wagers, raises and folds.
-- Assumes nothing.
use Prim.Native.Nat.{ℕ, ◌+◌, ◌≤◌, ◌<◌}
use mathlib.Core.Path.{◌≡◌}
use mathlib.Core.Bool.{true, false, not}
use lib.ListN.{get_or}
use lib.Dec.{eqb}
use borrow.Author.Tests.{eqb-true}
use Rattle.counting.proofs.Tests.{and_true}
use Rattle.cards.specs.Deck.{whole_deck}
use Rattle.records.specs.Seats.{plays}
use Rattle.seating.specs.Seat.{no_wager}
use Rattle.seating.proofs.Tables.{Posted, posted}
use Rattle.seating.proofs.Seats.{Wagered, wagered, absent}
use Rattle.dealing.proofs.Parts.{whole}
use Rattle.choosing.specs.Streets.{raise_on, fold_of}
use Rattle.choosing.proofs.Stakes.{raise_most, nine_antes, raised_before_fold, none_from_fold, absent_none}
use Rattle.round.specs.declared.Round.{Round}
use Rattle.round.specs.Order.{is_playing, is_finished}
use Rattle.led.specs.Led.{Led}
use Rattle.led.specs.Held.{opened}
use Rattle.led.proofs.Kept.{led-long, led_fits}

-- a finished round has its four deck parts
pub finished_dealt : (r : Round) → is_finished r ≡ true → r.deck.parts ≡ 4
finished_dealt r e = eqb-true r.deck.parts 4 (and_true (eqb r.deck.parts 4) (not (is_playing r)) e).0

module _ (r : Round) (l : Led r) where
  -- four deck parts are a whole deck: 52 different cards below 52
  pub led_deck : r.deck.parts ≡ 4 → whole_deck r.deck.cards ≡ true
  led_deck e = whole r.deck (led-long r l).cards (led_fits r l).deck e

  -- a seat that plays: its wagers lie within the limits of a table that was read, and those limits are such as a table may have
  pub led_wagers : (k : ℕ) → k < 7 → plays r.wagers.antes k ≡ true → Wagered r.table r.wagers k
  led_wagers k h p = wagered r.table r.wagers k h (led_fits r l).seats p

  pub led_table : (k : ℕ) → k < 7 → plays r.wagers.antes k ≡ true → Posted r.table
  led_table k h p = posted r.table (led_fits r l).table (led_wagers k h p).table

  -- a seat that doesn't play has no wager and no choice
  pub led_absent : (k : ℕ) → k < 7 → plays r.wagers.antes k ≡ false → no_wager r.wagers k ≡ true
  led_absent k h p = absent r.table r.wagers k h (led_fits r l).seats p

  module _ (s k : ℕ) (hs : s < 3) (hk : k < 7) where
    pub led_unplayed : get_or r.wagers.antes k 0 ≡ 0 → (fold_of r.play k ≡ 0) × (raise_on r.play s k ≡ 0)
    led_unplayed z = absent_none r.wagers.antes r.play (opened r) s k hs hk (led_fits r l).play z

    -- raises are 1 to 3 antes on the streets before a fold, and none from there
    pub led_raise : raise_on r.play s k ≤ 3
    led_raise = raise_most r.wagers.antes r.play (opened r) s k hs hk (led_fits r l).play

    pub led_before_fold : s + 1 < fold_of r.play k → 1 ≤ raise_on r.play s k
    led_before_fold f = raised_before_fold r.wagers.antes r.play (opened r) s k hs hk (led_fits r l).play f

    pub led_from_fold : 0 < fold_of r.play k → fold_of r.play k ≤ s + 1 → raise_on r.play s k ≡ 0
    led_from_fold z f = none_from_fold r.wagers.antes r.play (opened r) s k hs hk (led_fits r l).play z f

  -- at most nine antes in all
  pub led_nine : (k : ℕ) → k < 7 → raise_on r.play 0 k + raise_on r.play 1 k + raise_on r.play 2 k ≤ 9
  led_nine k h = nine_antes r.wagers.antes r.play (opened r) k h (led_fits r l).play
