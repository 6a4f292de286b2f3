-- The round in progress, and which kind of record may come.
-- Assumes nothing.
use Rattle.std.specs.Prelude.{ℕ, Bool, false, not, ◌&&◌, ◌||◌, eqb, ltb, if◌then◌else◌}
use Rattle.records.specs.Seats.{any_plays}
use Rattle.seating.specs.Table.{no_table, has_table}
use Rattle.seating.specs.Seat.{no_wagers}
use Rattle.dealing.specs.Part.{no_deck}
use Rattle.choosing.specs.Streets.{no_play, streets_over}
use Rattle.round.specs.declared.Round.{Round}
use Rattle.round.specs.declared.Kind.{Kind}
use Rattle.round.specs.declared.Kind.TheVariants.{Table, Seat, Deck, Choice}

-- the four kinds of record, by number: the first byte of each record
abbrev pub kind_number : Kind → ℕ
kind_number Table = 1
kind_number Seat = 2
kind_number Deck = 3
kind_number Choice = 4

-- some kind has this number
abbrev pub is_kind : ℕ → Bool
is_kind n = (eqb n 1 || eqb n 2) || (eqb n 3 || eqb n 4)

-- the fresh round: parts not yet filled are zero
abbrev pub fresh_round : Round
fresh_round = record { table = no_table; wagers = no_wagers; deck = no_deck; play = no_play }

-- the four deck parts were read
abbrev pub is_dealt : Round → Bool
is_dealt r = eqb r.deck.parts 4

-- a street is open: fewer than three are over
abbrev pub is_playing : Round → Bool
is_playing r = ltb (streets_over r.wagers.antes r.play) 3

-- The round is finished after street three, or when no seat is still in.
abbrev pub is_finished : Round → Bool
is_finished r = is_dealt r && not (is_playing r)

-- Order: one table, one to seven seats with rising numbers, the four deck parts, choices until the round is finished, nothing more.
-- An unknown kind, or a deck part before any seat, can't come. After the table a seat record may come until the first deck part.
unfoldable pub may_come : Round → ℕ → Bool
may_come r kind =
    if eqb kind 1 then not (has_table r.table)
    else if eqb kind 2 then has_table r.table && eqb r.deck.parts 0
    else if eqb kind 3 then any_plays r.wagers.antes && ltb r.deck.parts 4
    else if eqb kind 4 then is_dealt r && is_playing r
    else false
