-- A round file, read record by record.
-- Assumes nothing.
use Rattle.std.specs.Prelude.{ℕ, zero, suc, ◌+◌, ◌*◌, ◌/◌, ◌%◌, Bool, not, ◌&&◌, List, [], ◌∷◌, eqb, ltb, length, take, drop, if◌then◌else◌}
use Rattle.round.specs.declared.Round.{Round}
use Rattle.round.specs.declared.Step.{Step}
use Rattle.round.specs.Order.{fresh_round}
use Rattle.round.specs.Feed.{feed, number_of}
use Rattle.led.specs.Led.{is_taken}
use Rattle.reading.specs.declared.Reading.{Reading}

-- A round file is a run of 16-byte records with no header: the first n of them
unfoldable pub cut : ℕ → List ℕ → List (List ℕ)
cut zero l = []
cut (suc n) l = take 16 l ∷ cut n (drop 16 l)

-- and all of them; an odd tail is none
unfoldable pub file_records : List ℕ → List (List ℕ)
file_records l = cut (length l / 16) l

-- where the reading of records ends: the round that is then held, the refusal's number or 0, and its place
abbrev pub stop : Round → ℕ → ℕ → Reading
stop r n p = record { round = r; number = n; place = p }

-- Feeding records one at a time from a round, stopping at the first refusal. (by: what answers a record; p: the first one's place.)
unfoldable pub read_by : (Round → List ℕ → Step) → Round → ℕ → List (List ℕ) → Reading
read_by by r p [] = stop r 0 p
read_by by r p (b ∷ bs) =
    if is_taken (by r b).answer then read_by by (by r b).round (p + 1) bs
    else stop r (number_of (by r b).answer) p

abbrev pub read_records : List (List ℕ) → Reading
read_records bs = read_by feed fresh_round 0 bs

-- A file is checked for 2, then record by record. The refusal carries the place of the first faulty record, from 0; for 2 the count of
-- whole records.
unfoldable pub read_file : List ℕ → Reading
read_file l = if not (eqb (length l % 16) 0) then stop fresh_round 2 (length l / 16) else read_records (file_records l)

-- how many records the program holds: no accepted file has more than 33
abbrev pub held_records : ℕ
held_records = 34

-- a record that comes after those read is one too many: 3 at its place, where none of those read is refused
abbrev pub or_too_many : Bool → Reading → Reading
or_too_many more w = if eqb w.number 0 && more then stop w.round 3 w.place else w

-- The same of a file of which only the first bytes are held, and for the rest how many come after. 2 goes by the whole file.
unfoldable pub read_prefix : List ℕ → ℕ → Reading
read_prefix first after =
    if not (eqb ((length first + after) % 16) 0) then stop fresh_round 2 ((length first + after) / 16)
    else or_too_many (ltb (length first / 16) ((length first + after) / 16)) (read_records (file_records first))

-- The refused record as a part of the file: for 2 the odd bytes at the end; for a file that no record of is refused the empty part at the
-- end.
unfoldable pub refused_part : List ℕ → List ℕ
refused_part l = take 16 (drop (16 * (read_file l).place) l)
