-- The test of a held round, on its own numbers.
-- Assumes nothing.
use Rattle.std.specs.Prelude.{ℕ, ◌+◌, Bool, ◌&&◌, ◌||◌, eqb, if◌then◌else◌}
use Rattle.records.specs.Seats.{any_plays}
use Rattle.seating.specs.Table.{table_fits}
use Rattle.seating.specs.Seat.{seats_fit}
use Rattle.dealing.specs.Part.{deck_fits}
use Rattle.choosing.specs.Streets.{streets_over}
use Rattle.choosing.specs.Slots.{play_fits}
use Rattle.round.specs.declared.Round.{Round}
use Rattle.round.specs.Order.{is_dealt}

-- how many streets have opened: none before the whole deck was read
abbrev pub opened : Round → ℕ
opened r = if is_dealt r then streets_over r.wagers.antes r.play + 1 else 0

-- deck parts only after a seat
abbrev pub deck_after_seats : Round → Bool
deck_after_seats r = eqb r.deck.parts 0 || any_plays r.wagers.antes

unfoldable pub is_held : Round → Bool
is_held r =
    (table_fits r.table && seats_fit r.table r.wagers)
    && ((deck_fits r.deck && deck_after_seats r) && play_fits r.wagers.antes r.play (opened r))
