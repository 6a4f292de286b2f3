-- Writing the file of a held round.
-- Assumes nothing.
use Rattle.std.specs.Prelude.{ℕ, ◌*◌, not, List, Result, eqb, length, if◌then◌else◌}
use Rattle.causes.specs.declared.Refusal.{Refusal}
use Rattle.causes.specs.Refusal.{answered}
use Rattle.seating.specs.Table.{has_table}
use Rattle.round.specs.declared.Round.{Round}
use Rattle.led.specs.Held.{is_held}
use Rattle.led.specs.Records.{records_of, records_taken}
use Rattle.reading.specs.Joined.{joined}

-- The file of a held round: table, seats, deck parts, then choices by street and by rising seat, as far as the round has come.
unfoldable pub file_of : Round → List ℕ
file_of r = joined (records_of r)

-- how many bytes that is: 16 for each record that the round has taken
abbrev pub file_long : Round → ℕ
file_long r = 16 * records_taken r

-- The number of the refusal, 0 where there is none. 17: the held round is neither the fresh one nor led to by accepted records. 16: it has no
-- table record. 1: the lent room isn't exactly the file's length. (room: how long it is.)
unfoldable pub write_refusal : Round → ℕ → ℕ
write_refusal r room =
    if not (is_held r) then 17
    else if not (has_table r.table) then 16
    else if not (eqb room (length (file_of r))) then 1
    else 0

-- refused, or written
unfoldable pub write_answer : Round → ℕ → Result (Unit {0}) Refusal
write_answer r room = answered (write_refusal r room) tt

-- The room then holds the file; after a refusal it is unchanged.
unfoldable pub write_list : Round → List ℕ → List ℕ
write_list r lent = if not (eqb (write_refusal r (length lent)) 0) then lent else file_of r
