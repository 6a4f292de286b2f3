-- The seats and their wagers, in whole dollars.
-- Assumes nothing.
use Rattle.std.specs.Prelude.{ℕ, ◌+◌, Bool, not, ◌&&◌, ◌||◌, List, [], ◌∷◌, eqb, leb, get_or, set, replicate, if◌then◌else◌}
use Rattle.counting.specs.Count.{every_below}
use Rattle.records.specs.Bytes.{byte, word, zero_from, between}
use Rattle.records.specs.Seats.{place, plays}
use Rattle.seating.specs.declared.Table.{Table}
use Rattle.seating.specs.declared.Wagers.{Wagers}
use Rattle.seating.specs.declared.SeatWagers.{SeatWagers}
use Rattle.seating.specs.Table.{has_table}

-- An ante lies between the two limits, ends included.
abbrev pub ante_fits : Table → ℕ → Bool
ante_fits t ante = between t.smallest t.largest ante

-- the most that may be wagered on All-Six: the largest ante, and nothing where it isn't offered
unfoldable pub most_six : Table → ℕ
most_six t = if eqb t.six 0 then 0 else t.largest

-- A side wager is 0 (not placed) up to the largest ante.
abbrev pub sides_fit : Table → ℕ → ℕ → ℕ → ℕ → Bool
sides_fit t board pocket lo six = (leb board t.largest && leb pocket t.largest) && (leb lo t.largest && leb six (most_six t))

-- the seat at place k, where it plays, has a lower number
abbrev pub is_lower : List ℕ → ℕ → ℕ → Bool
is_lower antes seat k = not (plays antes k && leb seat (k + 1))

-- rising numbers: a seat is above each that plays
unfoldable pub is_above : List ℕ → ℕ → Bool
is_above antes seat = every_below 7 (is_lower antes seat)

-- a seat record has a seat of 1 to 7 in byte 1, with rising numbers
abbrev pub seat_rises : List ℕ → List ℕ → Bool
seat_rises antes b = between 1 7 (byte b 1) && is_above antes (byte b 1)

-- The number of the refusal of what a seat record says, 0 where there is none. 4: a byte that must be zero isn't. 7: seat outside
-- 1 to 7, or not above the one before. 8: ante outside the limits. 9: side wager above the largest ante, or on
-- All-Six where it isn't offered.
unfoldable pub seat_refusal : Table → Wagers → List ℕ → ℕ
seat_refusal t w b =
    if not (zero_from 12 b) then 4
    else if not (seat_rises w.antes b) then 7
    else if not (ante_fits t (word b 2)) then 8
    else if not (sides_fit t (word b 4) (word b 6) (word b 8) (word b 10)) then 9
    else 0

-- what a seat record says of the seat's wagers
abbrev pub seat_of : List ℕ → SeatWagers
seat_of b = record { ante = word b 2; board = word b 4; pocket = word b 6; lo = word b 8; six = word b 10 }

-- what the seat at place k has wagered
abbrev pub seat_at : Wagers → ℕ → SeatWagers
seat_at w k = record { ante = get_or w.antes k 0; board = get_or w.board k 0; pocket = get_or w.pocket k 0; lo = get_or w.lo k 0; six = get_or w.six k 0 }

-- 2, seat: byte 1 seat; from byte 2, two bytes each: ante, Board, Pocket, Lo Ball, All-Six.
abbrev pub with_seat : Wagers → List ℕ → Wagers
with_seat w b =
    record {
      antes = set w.antes (place (byte b 1)) (word b 2);
      board = set w.board (place (byte b 1)) (word b 4);
      pocket = set w.pocket (place (byte b 1)) (word b 6);
      lo = set w.lo (place (byte b 1)) (word b 8);
      six = set w.six (place (byte b 1)) (word b 10);
    }

-- before the first seat record
abbrev pub no_wagers : Wagers
no_wagers = record { antes = replicate 7 0; board = replicate 7 0; pocket = replicate 7 0; lo = replicate 7 0; six = replicate 7 0 }

-- the seat at place k has wagered nothing
unfoldable pub no_wager : Wagers → ℕ → Bool
no_wager w k =
    (eqb (get_or w.antes k 0) 0 && eqb (get_or w.board k 0) 0)
    && ((eqb (get_or w.pocket k 0) 0 && eqb (get_or w.lo k 0) 0) && eqb (get_or w.six k 0) 0)

-- it has wagered within the limits
unfoldable pub wagers_fit : Table → Wagers → ℕ → Bool
wagers_fit t w k = ante_fits t (get_or w.antes k 0) && sides_fit t (get_or w.board k 0) (get_or w.pocket k 0) (get_or w.lo k 0) (get_or w.six k 0)

-- the wagers of a round that accepted records lead to: each seat has none, or, at a table, such as no refusal is for
abbrev pub seat_fits : Table → Wagers → ℕ → Bool
seat_fits t w k = no_wager w k || (has_table t && wagers_fit t w k)

unfoldable pub seats_fit : Table → Wagers → Bool
seats_fit t w = every_below 7 (seat_fits t w)

-- the record of the seat at place k; no wager of a held round is above 100, so the high bytes are zero
unfoldable pub seat_record : Wagers → ℕ → List ℕ
seat_record w k =
    2 ∷ (k + 1)
    ∷ get_or w.antes k 0 ∷ 0 ∷ get_or w.board k 0 ∷ 0 ∷ get_or w.pocket k 0 ∷ 0 ∷ get_or w.lo k 0 ∷ 0
    ∷ get_or w.six k 0 ∷ 0 ∷ 0 ∷ 0 ∷ 0 ∷ 0 ∷ []
