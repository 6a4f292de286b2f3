-- No wager of a held round is above 100, so its low byte is all of it.
-- Assumes nothing.
use Prim.Native.Nat.{ℕ, ◌<◌}
use mathlib.Core.Path.{◌≡◌}
use mathlib.Core.Bool.{true}
use native.Mathlib.Omega.{arith}
use lib.ListN.{get_or}
use Rattle.seating.proofs.Tables.{table_high}
use Rattle.seating.proofs.Seats.{wagers_most}
use Rattle.round.specs.declared.Round.{Round}
use Rattle.led.specs.Held.{is_held}
use Rattle.led.proofs.Kept.{held_fits}

pub low_wagers : (r : Round) (k : ℕ) → is_held r ≡ true → k < 7
    → (get_or r.wagers.antes k 0 < 256) × (get_or r.wagers.board k 0 < 256) × (get_or r.wagers.pocket k 0 < 256) × (get_or r.wagers.lo k 0 < 256) × (get_or r.wagers.six k 0 < 256)
low_wagers r k e h =
    let fits = held_fits r e in
    let most = (table_high r.table fits.table).1 in
    let w = wagers_most r.table r.wagers k h fits.seats in
    (omega (arith, w.0), omega (arith, w.1), omega (arith, w.2), omega (arith, w.3), omega (arith, w.4))
