-- A shift: rounds joined end to end, settled in one call.
-- Assumes nothing.
use Rattle.std.specs.Prelude.{ℕ, ◌*◌, ◌/◌, ◌%◌, Bool, not, ◌&&◌, List, [], ◌∷◌, map, Result, Ok, Err, eqb, length, replicate, if◌then◌else◌}
use Rattle.reading.specs.Joined.{joined}
use Rattle.results.specs.Results.{results_long}
use Rattle.settlement.specs.declared.Faulty.{Faulty}
use Rattle.settlement.specs.Settle.{faulty_at, file_answer, file_list, file_number, file_place}
use Rattle.cutting.specs.Rounds.{shift_rounds, round_count}

-- ---- what each round gives

-- Each round's results equal those of its own call, which is lent zeros: a refused round's amounts are zeros.
unfoldable pub round_amounts : List ℕ → List ℕ
round_amounts l = file_list l (replicate results_long 0)

-- Each round's answer equals that of its own call: refusal number and place within the round, 0 and 0 when settled.
unfoldable pub round_answer : List ℕ → List ℕ
round_answer l = file_number (file_answer l results_long) ∷ file_place (file_answer l results_long) ∷ []

-- how many numbers these are
abbrev pub answer_long : ℕ
answer_long = 2

-- what each round of a shift gives, one after the other
abbrev pub in_turn : (List ℕ → List ℕ) → List ℕ → List ℕ
in_turn give l = joined (map give (shift_rounds l))

-- ---- the call

-- One lent list takes 35 amounts a round, the other two numbers a round: each is exactly that long for the number of rounds.
abbrev pub lists_fit : List ℕ → List ℕ → List ℕ → Bool
lists_fit l amounts answers = eqb (length amounts) (results_long * round_count l) && eqb (length answers) (answer_long * round_count l)

-- The number of the refusal, 0 where there is none. 2: the file's length isn't a multiple of 16. Then 1: either list isn't exactly that long. (fit: whether both are.)
unfoldable pub shift_refusal : List ℕ → Bool → ℕ
shift_refusal l fit =
    if not (eqb (length l % 16) 0) then 2
    else if not fit then 1
    else 0

-- Its place: for 2 the count of whole records, for 1 place 0.
unfoldable pub shift_place : List ℕ → ℕ
shift_place l = if not (eqb (length l % 16) 0) then length l / 16 else 0

-- refused with its number and place, or settled with the number of rounds
unfoldable pub shift_answer : List ℕ → Bool → Result ℕ Faulty
shift_answer l fit =
    if not (eqb (shift_refusal l fit) 0) then Err (faulty_at (shift_refusal l fit) (shift_place l))
    else Ok (round_count l)

-- What a lent list then holds: of a refused shift nothing is written; else what each round gives.
unfoldable pub shift_list : (List ℕ → List ℕ) → List ℕ → Bool → List ℕ → List ℕ
shift_list give l fit lent = if not (eqb (shift_refusal l fit) 0) then lent else in_turn give l

-- this paper's number for each answer: the refusal's, and 0 where the shift is settled
abbrev pub shift_number : Result ℕ Faulty → ℕ
shift_number (Ok rounds) = 0
shift_number (Err faulty) = faulty.number

-- and its values: a refusal's place, 0 where there is none,
abbrev pub answer_place : Result ℕ Faulty → ℕ
answer_place (Ok rounds) = 0
answer_place (Err faulty) = faulty.place

-- and the number of rounds of a settled shift
abbrev pub answer_rounds : Result ℕ Faulty → List ℕ
answer_rounds (Ok rounds) = rounds ∷ []
answer_rounds (Err faulty) = []

-- ---- the same in numbers that the caller lends: what an answer does not have is left as it was

abbrev pub rounds_told : Result ℕ Faulty → ℕ → ℕ
rounds_told (Ok rounds) was = rounds
rounds_told (Err faulty) was = was

abbrev pub place_told : Result ℕ Faulty → ℕ → ℕ
place_told (Ok rounds) was = was
place_told (Err faulty) was = faulty.place
