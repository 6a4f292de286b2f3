-- What is handed back, in cents, of a wager in dollars; and which odds are above 50.
-- Assumes nothing.
use Rattle.std.specs.Prelude.{ℕ, ◌+◌, ◌*◌, ◌/◌, Bool, true, false, ltb}
use Rattle.pays.specs.declared.Pay.{Pay}
use Rattle.pays.specs.declared.Pay.TheVariants.{To, ThreeToTwo, To200000, Push, Loss, NoTable}

-- A win hands back the wager and odds × wager; a push the wager; a loss nothing. (A dollar at 3 to 2 wins 150 cents.)
abbrev pub handed_back : Pay → ℕ → ℕ
handed_back (To odds) wager = 100 * wager + 100 * (odds * wager)
handed_back ThreeToTwo wager = 100 * wager + 150 * wager
handed_back To200000 wager = 100 * wager + 100 * (200000 * wager)
handed_back Push wager = 100 * wager
handed_back Loss wager = 0
handed_back NoTable wager = 0

-- The win without the wager, odds × wager, in dollars. It is asked of odds above 50; 3 to 2 of an odd wager is no whole dollar.
abbrev pub win_at : Pay → ℕ → ℕ
win_at (To odds) wager = odds * wager
win_at ThreeToTwo wager = 3 * wager / 2
win_at To200000 wager = 200000 * wager
win_at Push wager = 0
win_at Loss wager = 0
win_at NoTable wager = 0

-- the odds are above 50
abbrev pub above_fifty : Pay → Bool
above_fifty (To odds) = ltb 50 odds
above_fifty ThreeToTwo = false
above_fifty To200000 = true
above_fifty Push = false
above_fifty Loss = false
above_fifty NoTable = false
