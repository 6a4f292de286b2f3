-- Records as they were read before All-Six, and files whose records say nothing of it.
-- Assumes nothing.
use Rattle.std.specs.Prelude.{ℕ, ◌%◌, ◌/◌, ◌≡◌, Bool, true, not, ◌&&◌, List, [], ◌∷◌, eqb, leb, length, set, if◌then◌else◌}
use Rattle.records.specs.Bytes.{byte, word, zero_from, between}
use Rattle.records.specs.Seats.{place}
use Rattle.seating.specs.declared.Table.{Table}
use Rattle.seating.specs.declared.Wagers.{Wagers}
use Rattle.seating.specs.Table.{limits_fit}
use Rattle.seating.specs.Seat.{ante_fits, seat_rises}
use Rattle.dealing.specs.Part.{part_refusal, with_part}
use Rattle.choosing.specs.Choice.{choice_refusal, with_choice}
use Rattle.round.specs.declared.Round.{Round}
use Rattle.round.specs.declared.Step.{Step}
use Rattle.round.specs.Order.{fresh_round, may_come}
use Rattle.round.specs.Feed.{with_table, with_wagers, with_deck, with_play, refused, accepted}
use Rattle.reading.specs.declared.Reading.{Reading}
use Rattle.reading.specs.File.{stop, read_by, file_records}

-- ---- a file that says nothing of All-Six

-- byte 7 of a table record and bytes 10 and 11 of a seat record are zero
unfoldable pub says_nothing : List ℕ → Bool
says_nothing b =
    if eqb (byte b 0) 1 then eqb (byte b 7) 0
    else if eqb (byte b 0) 2 then eqb (byte b 10) 0 && eqb (byte b 11) 0
    else true

-- each of the records says nothing
unfoldable pub all_say_nothing : List (List ℕ) → Bool
all_say_nothing [] = true
all_say_nothing (b ∷ bs) = says_nothing b && all_say_nothing bs

abbrev pub Older : List ℕ → Type 0
Older l = all_say_nothing (file_records l) ≡ true

-- ---- a table record, as it was: bytes 7 to 15 must be zero

abbrev pub old_table_of : List ℕ → Table
old_table_of b = record { smallest = byte b 1; largest = byte b 2; base = byte b 3; lo = byte b 4; board = byte b 5; pocket = byte b 6; six = 0 }

unfoldable pub old_tables_fit : Table → Bool
old_tables_fit t = (between 1 5 t.base && between 1 2 t.lo) && (between 1 4 t.board && between 1 3 t.pocket)

unfoldable pub old_table_refusal : List ℕ → ℕ
old_table_refusal b =
    if not (zero_from 7 b) then 4
    else if not (limits_fit (old_table_of b)) then 5
    else if not (old_tables_fit (old_table_of b)) then 6
    else 0

-- ---- a seat record, as it was: bytes 10 to 15 must be zero

abbrev pub old_sides_fit : Table → ℕ → ℕ → ℕ → Bool
old_sides_fit t board pocket lo = leb board t.largest && (leb pocket t.largest && leb lo t.largest)

unfoldable pub old_seat_refusal : Table → Wagers → List ℕ → ℕ
old_seat_refusal t w b =
    if not (zero_from 10 b) then 4
    else if not (seat_rises w.antes b) then 7
    else if not (ante_fits t (word b 2)) then 8
    else if not (old_sides_fit t (word b 4) (word b 6) (word b 8)) then 9
    else 0

abbrev pub old_with_seat : Wagers → List ℕ → Wagers
old_with_seat w b =
    record {
      antes = set w.antes (place (byte b 1)) (word b 2);
      board = set w.board (place (byte b 1)) (word b 4);
      pocket = set w.pocket (place (byte b 1)) (word b 6);
      lo = set w.lo (place (byte b 1)) (word b 8);
      six = set w.six (place (byte b 1)) 0;
    }

-- ---- what the round answered to a record, and a file read by that

unfoldable pub old_kind_refusal : Round → List ℕ → ℕ
old_kind_refusal r b =
    if eqb (byte b 0) 1 then old_table_refusal b
    else if eqb (byte b 0) 2 then old_seat_refusal r.table r.wagers b
    else if eqb (byte b 0) 3 then part_refusal r.deck b
    else choice_refusal r.wagers.antes r.play b

unfoldable pub old_refusal : Round → List ℕ → ℕ
old_refusal r b =
    if not (eqb (length b) 16) then 2
    else if not (may_come r (byte b 0)) then 3
    else old_kind_refusal r b

unfoldable pub old_next : Round → List ℕ → Round
old_next r b =
    if eqb (byte b 0) 1 then with_table r (old_table_of b)
    else if eqb (byte b 0) 2 then with_wagers r (old_with_seat r.wagers b)
    else if eqb (byte b 0) 3 then with_deck r (with_part r.deck b)
    else with_play r (with_choice r.wagers.antes r.play b)

unfoldable pub old_feed : Round → List ℕ → Step
old_feed r b = if not (eqb (old_refusal r b) 0) then refused (old_refusal r b) r else accepted (old_next r b)

unfoldable pub old_read_file : List ℕ → Reading
old_read_file l =
    if not (eqb (length l % 16) 0) then stop fresh_round 2 (length l / 16)
    else read_by old_feed fresh_round 0 (file_records l)
