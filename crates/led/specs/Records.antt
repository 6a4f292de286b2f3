-- The records of a held round, as a file has them: its table, its seats, its deck parts, then its choices by street and by rising seat.
-- Assumes nothing.
use Rattle.std.specs.Prelude.{ℕ, ◌+◌, Bool, List, [], ◌∷◌, ◌++◌, if◌then◌else◌}
use Rattle.counting.specs.Choose.{one}
use Rattle.counting.specs.Count.{tally, gather}
use Rattle.records.specs.Seats.{plays}
use Rattle.seating.specs.Table.{has_table, table_record}
use Rattle.seating.specs.Seat.{seat_record}
use Rattle.dealing.specs.Part.{part_record}
use Rattle.choosing.specs.declared.Play.{Play}
use Rattle.choosing.specs.Streets.{raise_on, has_chosen, streets_over, choices_taken}
use Rattle.choosing.specs.Choice.{choice_record}
use Rattle.round.specs.declared.Round.{Round}

-- one record where the test holds, else none
abbrev pub only : Bool → List ℕ → List (List ℕ)
only t b = if t then b ∷ [] else []

abbrev pub table_records : Round → List (List ℕ)
table_records r = only (has_table r.table) (table_record r.table)

abbrev pub seat_records : Round → List (List ℕ)
seat_records r = gather 7 (λ k. only (plays r.wagers.antes k) (seat_record r.wagers k))

abbrev pub part_records : Round → List (List ℕ)
part_records r = gather r.deck.parts (λ n. part_record r.deck n ∷ [])

-- that of the seat at place k on street s
abbrev pub choice_in : Play → ℕ → ℕ → List (List ℕ)
choice_in p s k = only (has_chosen p s k) (choice_record k (raise_on p s k))

-- those of street s
abbrev pub street_records : Round → ℕ → List (List ℕ)
street_records r s = gather 7 (choice_in r.play s)

abbrev pub choice_records : Round → List (List ℕ)
choice_records r = gather 3 (street_records r)

unfoldable pub records_of : Round → List (List ℕ)
records_of r = table_records r ++ (seat_records r ++ (part_records r ++ choice_records r))

-- the street that is open, 3 where all are over
abbrev pub street_of : Round → ℕ
street_of r = streets_over r.wagers.antes r.play

-- how many records a round has taken: its table, its seats, its deck parts, its choices
unfoldable pub records_taken : Round → ℕ
records_taken r = one (has_table r.table) + (tally 7 (plays r.wagers.antes) + (r.deck.parts + choices_taken r.play))
