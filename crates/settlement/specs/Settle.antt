-- What the entries answer, and what the lent list then holds.
-- Assumes nothing.
use Rattle.std.specs.Prelude.{ℕ, not, List, [], ◌∷◌, Result, Ok, Err, eqb, length, if◌then◌else◌}
use Rattle.causes.specs.declared.Refusal.{Refusal}
use Rattle.causes.specs.Refusal.{number, number_of, answered}
use Rattle.counting.specs.Choose.{unless_refused}
use Rattle.round.specs.declared.Round.{Round}
use Rattle.round.specs.Order.{is_finished}
use Rattle.led.specs.Held.{is_held}
use Rattle.reading.specs.declared.Reading.{Reading}
use Rattle.reading.specs.File.{read_file, read_prefix}
use Rattle.results.specs.Results.{pool, results_long, results}
use Rattle.settlement.specs.declared.Paid.{Paid}
use Rattle.settlement.specs.declared.Faulty.{Faulty}

-- ---- a held round

-- The number of the refusal, 0 where there is none. 17: the held round is neither the fresh one nor led to by accepted records. 1: the results
-- list isn't 35 long. 16: the round isn't finished. (room: how long the results list is.)
unfoldable pub settle_refusal : Round → ℕ → ℕ
settle_refusal r room =
    if not (is_held r) then 17
    else if not (eqb room results_long) then 1
    else if not (is_finished r) then 16
    else 0

-- the pool in dollars, full and as paid
abbrev pub settled_pool : Round → Paid
settled_pool r = record { full = (pool r).full; paid = (pool r).paid }

-- refused with its number, or the pool
unfoldable pub settle_answer : Round → ℕ → Result Paid Refusal
settle_answer r room = answered (settle_refusal r room) (settled_pool r)

-- A refusal changes no lent list.
unfoldable pub settle_list : Round → List ℕ → List ℕ
settle_list r lent = if not (eqb (settle_refusal r (length lent)) 0) then lent else results r

-- this paper's number for each answer: the refusal's, and 0 where the round is settled
abbrev pub settle_number : Result Paid Refusal → ℕ
settle_number answer = number_of answer

-- and its values: the pool in dollars, full and as paid; a refusal has none
abbrev pub settle_pool : Result Paid Refusal → List ℕ
settle_pool (Ok p) = p.full ∷ p.paid ∷ []
settle_pool (Err refusal) = []

-- those of a round's pool
abbrev pub full_and_paid : Round → List ℕ
full_and_paid r = (pool r).full ∷ (pool r).paid ∷ []

-- ---- a file

-- The number of the refusal, 0 where there is none. A file is checked for 1, then 2, then record by record; else the held round is settled.
unfoldable pub read_refusal : Reading → ℕ → ℕ
read_refusal w room =
    if not (eqb room results_long) then 1
    else if not (eqb w.number 0) then w.number
    else settle_refusal w.round room

-- Its place: for 1, place 0; else where reading ended, which is the place of the first faulty record, from 0, and for 2 and 16 the count of whole
-- records.
unfoldable pub read_place : Reading → ℕ → ℕ
read_place w room = if not (eqb room results_long) then 0 else w.place

-- a refusal of a file: its number and its place
abbrev pub faulty_at : ℕ → ℕ → Faulty
faulty_at number place = record { number = number; place = place }

-- refused with its number and place, or the pool in dollars, full and as paid
unfoldable pub read_answer : Reading → ℕ → Result Paid Faulty
read_answer w room =
    if not (eqb (read_refusal w room) 0) then Err (faulty_at (read_refusal w room) (read_place w room))
    else Ok (settled_pool w.round)

-- A refusal changes no lent list.
unfoldable pub read_list : Reading → List ℕ → List ℕ
read_list w lent = if not (eqb (read_refusal w (length lent)) 0) then lent else results w.round

abbrev pub file_answer : List ℕ → ℕ → Result Paid Faulty
file_answer l room = read_answer (read_file l) room

abbrev pub file_list : List ℕ → List ℕ → List ℕ
file_list l lent = read_list (read_file l) lent

-- the same of a file of which the first bytes are held and the rest is counted
abbrev pub prefix_answer : List ℕ → ℕ → ℕ → Result Paid Faulty
prefix_answer first after room = read_answer (read_prefix first after) room

abbrev pub prefix_list : List ℕ → ℕ → List ℕ → List ℕ
prefix_list first after lent = read_list (read_prefix first after) lent

-- this paper's number for each answer: the refusal's, and 0 where the round is settled
abbrev pub file_number : Result Paid Faulty → ℕ
file_number (Ok p) = 0
file_number (Err faulty) = faulty.number

-- and its values: a refusal's place, 0 where there is none,
abbrev pub file_place : Result Paid Faulty → ℕ
file_place (Ok p) = 0
file_place (Err faulty) = faulty.place

-- and the pool in dollars, full and as paid, of a settled round
abbrev pub file_pool : Result Paid Faulty → List ℕ
file_pool (Ok p) = p.full ∷ p.paid ∷ []
file_pool (Err faulty) = []

-- the place as it goes by the number: 0 where there is no refusal, and for 16 the count of whole records
unfoldable pub counted_place : Reading → ℕ → ℕ → ℕ
counted_place w count room =
    if eqb (read_refusal w room) 0 then 0
    else if eqb (read_refusal w room) 16 then count
    else read_place w room

-- the pool in dollars, full and as paid, where there is no refusal
abbrev pub read_pool : Reading → ℕ → List ℕ
read_pool w room = unless_refused (read_refusal w room) (full_and_paid w.round)

-- ---- the same as the code hands it on

-- the answer for a round, at a place of a file
abbrev pub at_place : ℕ → Result Paid Refusal → Result Paid Faulty
at_place place (Ok p) = Ok p
at_place place (Err refusal) = Err (faulty_at (number refusal) place)
