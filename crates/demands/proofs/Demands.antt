-- The three demands on version four, as theorems over the definitions that the contracts of the entries cite.
--
-- A contract says of an entry's answer, and of the list it was lent, that they are what a definition gives for its input; no entry has a
-- `requires`. So what is shown here of the definitions holds of the code: `takes` is what `held::take` answers to a record, `settle_answer` and
-- `settle_list` are `settlement::settle`'s, `file_answer` and `file_list` `settle_file`'s, `prefix_answer` and `prefix_list` `settle_prefix`'s,
-- `refused_part` `reading::refused_part`'s, `share_answer` and `share_list` `pool::share`'s, `write_answer` and `write_list` `writing::write_round`'s; `file_takes`,
-- `rewrite_answer` and `rewrite_list` are those of `filing`, where a round is held as its file; `shift_answer` and `shift_list` are `shifts::settle_shift`'s.
-- Assumes nothing.
use Prim.Native.Nat.{ℕ, ◌*◌, ◌-◌, ◌%◌, ◌≤◌, ◌<◌}
use mathlib.Core.Path.{◌≡◌, refl, sym, ap, ◌∙◌}
use mathlib.Core.Bool.{true}
use mathlib.Core.List.{List, [], ◌∷◌}
use lib.ListN.{length, get_or, take, drop, replicate}
use Rattle.std.specs.Prelude.{Result, Ok}
use Rattle.causes.specs.declared.Refusal.{Refusal}
use Rattle.counting.specs.Count.{total}
use Rattle.counting.proofs.Once.{one_answer}
use Rattle.records.specs.Bytes.{are_bytes}
use Rattle.names.specs.Top.{is_royal}
use Rattle.round.specs.declared.Round.{Round}
use Rattle.round.specs.declared.Answer.{Answer}
use Rattle.round.specs.declared.Step.{Step}
use Rattle.round.specs.Order.{fresh_round, is_finished}
use Rattle.round.specs.Feed.{number_of}
use Rattle.led.specs.Led.{Leads}
use Rattle.led.specs.Held.{is_held}
use Rattle.held.specs.Take.{Decides, takes}
use Rattle.pool.specs.declared.Shared.{Shared}
use Rattle.pool.specs.Pool.{share_answer, share_list}
use Rattle.causes.specs.Refusal.{number_of as refusal_number}
use Rattle.pool.proofs.Shares.{answer_number, refused as share-refused}
use Rattle.amounts.specs.Base.{hand_of, win, wins}
use Rattle.results.specs.Results.{pool, results_long, results}
use Rattle.reading.specs.File.{file_records, stop, read_by, read_file, held_records, read_prefix, refused_part}
use Rattle.reading.proofs.Readings.{leads_read, read_by_same, read_number, read_held, read_leads}
use Rattle.reading.proofs.Prefix.{prefix_held, prefix_number, prefix_ends, prefix_none, prefix_whole}
use Rattle.writing.specs.Write.{write_answer, write_list}
use Rattle.writing.proofs.Answers.{write_left}
use Rattle.filing.specs.Filed.{file_takes, rewrite_answer, rewrite_list}
use Rattle.filing.proofs.Answers.{rewrite_left}
use Rattle.pooling.proofs.Shared.{pool_totals}
use Rattle.settlement.specs.declared.Paid.{Paid}
use Rattle.settlement.specs.declared.Faulty.{Faulty}
use Rattle.settlement.specs.Settle.{settled_pool, settle_answer, settle_list, settle_number, read_answer, read_list, file_answer, file_list, prefix_answer, prefix_list, file_number, file_place}
use Rattle.cutting.specs.Rounds.{shift_rounds, round_count}
use Rattle.shifts.specs.Shift.{round_amounts, round_answer, answer_long, lists_fit, shift_answer, shift_list, shift_number}
use Rattle.shifts.proofs.Answers.{shift_left}
use Rattle.apart.proofs.Laws.{settled_round}
use Rattle.demands.specs.Floor.{floor_of, paid_of, Demand3}
use Rattle.demands.specs.Whole.{whole_file, whole_round, lower_file, lower_round}
use Rattle.demands.proofs.Settled.{settle_left, settled, settle_paid, read_left, read_done, read_paid, read_most, refused-place}
use Rattle.demands.proofs.Taken.{take_left, take_feeds}
use Rattle.demands.proofs.Whole.{whole_even, whole_leads, whole_finished, whole_pool, whole_results, whole_floors, lower_even, lower_leads, lower_finished, lower_floor}
use Rattle.demands.proofs.Third.{demand_3}

-- ==== Demand 1. Every input gets an answer. Each entry checks what it is handed and refuses by number;

-- a refused record leaves the held round as it was,
pub demand_1_record : (r : Round) (b : List ℕ) → (number_of (takes r b).answer ≡ 0 → ⊥) → (takes r b).round ≡ r
demand_1_record = take_left

-- and a refused settlement changes no amount in the results list: of a held round,
pub demand_1_round : (r : Round) (lent : List ℕ) → (settle_number (settle_answer r (length lent)) ≡ 0 → ⊥) → settle_list r lent ≡ lent
demand_1_round = settle_left

-- of a file,
pub demand_1_file : (l lent : List ℕ) → (file_number (file_answer l (length lent)) ≡ 0 → ⊥) → file_list l lent ≡ lent
demand_1_file l lent = read_left (read_file l) lent

-- of a file of which the first bytes are held,
pub demand_1_prefix : (first : List ℕ) (after : ℕ) (lent : List ℕ) → (file_number (prefix_answer first after (length lent)) ≡ 0 → ⊥) → prefix_list first after lent ≡ lent
demand_1_prefix first after lent = read_left (read_prefix first after) lent

-- of a pool;
pub demand_1_pool : (won : List ℕ) (most : ℕ) (lent : List ℕ) → (refusal_number (share_answer won most (length lent)) ≡ 0 → ⊥) → share_list won most lent ≡ lent
demand_1_pool won most lent n = share-refused won most lent (λ e. n (answer_number won most (length lent) ∙ e))

-- and a refused writing no byte of the room: of a held round,
pub demand_1_write : (r : Round) (lent : List ℕ) → (refusal_number (write_answer r (length lent)) ≡ 0 → ⊥) → write_list r lent ≡ lent
demand_1_write = write_left

-- and of a round that is held as its file.
pub demand_1_rewrite : (l lent : List ℕ) → (refusal_number (rewrite_answer l (length lent)) ≡ 0 → ⊥) → rewrite_list l lent ≡ lent
demand_1_rewrite = rewrite_left

-- A refused shift changes neither list.
pub demand_1_shift : (l amounts answers : List ℕ) → (shift_number (shift_answer l (lists_fit l amounts answers)) ≡ 0 → ⊥)
    → (shift_list round_amounts l (lists_fit l amounts answers) amounts ≡ amounts) × (shift_list round_answer l (lists_fit l amounts answers) answers ≡ answers)
demand_1_shift l amounts answers n =
    (shift_left round_amounts l (lists_fit l amounts answers) amounts n, shift_left round_answer l (lists_fit l amounts answers) answers n)

-- ==== Demand 2. A round is refused or settled exactly as the rules say, as document 01 fixes them: the contracts.

-- No second answer and no second list meets a contract: one law, cited for each entry.
both_once : {A : Type 0} (answer : A) (list : List ℕ) (a b : A) (x y : List ℕ) → (a ≡ answer) × (x ≡ list) → (b ≡ answer) × (y ≡ list) → (a ≡ b) × (x ≡ y)
both_once answer list a b x y p q = (one_answer answer a b p.0 q.0, one_answer list x y p.1 q.1)

pub demand_2_record : (r : Round) (b : List ℕ) (s t : Step) → s ≡ takes r b → t ≡ takes r b → s ≡ t
demand_2_record r b = one_answer (takes r b)

pub demand_2_round : (r : Round) (lent : List ℕ) (a b : Result Paid Refusal) (x y : List ℕ)
    → (a ≡ settle_answer r (length lent)) × (x ≡ settle_list r lent) → (b ≡ settle_answer r (length lent)) × (y ≡ settle_list r lent) → (a ≡ b) × (x ≡ y)
demand_2_round r lent = both_once (settle_answer r (length lent)) (settle_list r lent)

pub demand_2_file : (l lent : List ℕ) (a b : Result Paid Faulty) (x y : List ℕ)
    → (a ≡ file_answer l (length lent)) × (x ≡ file_list l lent) → (b ≡ file_answer l (length lent)) × (y ≡ file_list l lent) → (a ≡ b) × (x ≡ y)
demand_2_file l lent = both_once (file_answer l (length lent)) (file_list l lent)

pub demand_2_prefix : (first : List ℕ) (after : ℕ) (lent : List ℕ) (a b : Result Paid Faulty) (x y : List ℕ)
    → (a ≡ prefix_answer first after (length lent)) × (x ≡ prefix_list first after lent)
    → (b ≡ prefix_answer first after (length lent)) × (y ≡ prefix_list first after lent) → (a ≡ b) × (x ≡ y)
demand_2_prefix first after lent = both_once (prefix_answer first after (length lent)) (prefix_list first after lent)

pub demand_2_part : (l x y : List ℕ) → x ≡ refused_part l → y ≡ refused_part l → x ≡ y
demand_2_part l = one_answer (refused_part l)

pub demand_2_pool : (won : List ℕ) (most : ℕ) (lent : List ℕ) (a b : Result Shared Refusal) (x y : List ℕ)
    → (a ≡ share_answer won most (length lent)) × (x ≡ share_list won most lent)
    → (b ≡ share_answer won most (length lent)) × (y ≡ share_list won most lent) → (a ≡ b) × (x ≡ y)
demand_2_pool won most lent = both_once (share_answer won most (length lent)) (share_list won most lent)

pub demand_2_write : (r : Round) (lent : List ℕ) (a b : Result (Unit {0}) Refusal) (x y : List ℕ)
    → (a ≡ write_answer r (length lent)) × (x ≡ write_list r lent) → (b ≡ write_answer r (length lent)) × (y ≡ write_list r lent) → (a ≡ b) × (x ≡ y)
demand_2_write r lent = both_once (write_answer r (length lent)) (write_list r lent)

pub demand_2_rewrite : (l lent : List ℕ) (a b : Result (Unit {0}) Refusal) (x y : List ℕ)
    → (a ≡ rewrite_answer l (length lent)) × (x ≡ rewrite_list l lent) → (b ≡ rewrite_answer l (length lent)) × (y ≡ rewrite_list l lent) → (a ≡ b) × (x ≡ y)
demand_2_rewrite l lent = both_once (rewrite_answer l (length lent)) (rewrite_list l lent)

pub demand_2_take_file : (l b : List ℕ) (a c : Answer) → a ≡ file_takes l b → c ≡ file_takes l b → a ≡ c
demand_2_take_file l b = one_answer (file_takes l b)

pub demand_2_shift : (l amounts answers : List ℕ) (a b : Result ℕ Faulty) (x y v w : List ℕ) →
    let fit = lists_fit l amounts answers in
    (a ≡ shift_answer l fit) × (x ≡ shift_list round_amounts l fit amounts) × (v ≡ shift_list round_answer l fit answers)
    → (b ≡ shift_answer l fit) × (y ≡ shift_list round_amounts l fit amounts) × (w ≡ shift_list round_answer l fit answers) → (a ≡ b) × (x ≡ y) × (v ≡ w)
demand_2_shift l amounts answers a b x y v w p q =
    (one_answer _ a b p.0 q.0, one_answer _ x y p.1 q.1, one_answer _ v w p.2 q.2)

-- An accepted settlement: records, each accepted, lead to a finished round. The answer is that round's pool, and the list that round's results.
pub record Accepted {E : Type 0} (answer : Result Paid E) (list : List ℕ) (records : List (List ℕ)) (round : Round) : Type 0 where
  pub leads : Leads fresh_round records round
  pub finished : is_finished round ≡ true
  -- the pool is not refused: it is the round's wins, shared
  pub totals : ((pool round).number ≡ 0) × ((pool round).full ≡ total (wins round)) × ((pool round).paid ≡ total (pool round).shares)
  pub answered : answer ≡ Ok (settled_pool round)
  pub listed : list ≡ results round

accepts : {E : Type 0} (answer : Result Paid E) (list : List ℕ) (records : List (List ℕ)) (r : Round) → Leads fresh_round records r → is_finished r ≡ true
    → (answer ≡ Ok (settled_pool r)) × (list ≡ results r) → Accepted answer list records r
accepts answer list records r leads finished p =
    record { leads = leads; finished = finished; totals = pool_totals r (records, leads); answered = p.0; listed = p.1 }

-- of a held round, by records that lead to it; of a file, and of one of which the first bytes are held, by its own
abbrev pub AcceptedRound : Round → List ℕ → List (List ℕ) → Type 0
AcceptedRound r lent records = Accepted (settle_answer r (length lent)) (settle_list r lent) records r

abbrev pub AcceptedFile : List ℕ → List ℕ → Round → Type 0
AcceptedFile l lent r = Accepted (file_answer l (length lent)) (file_list l lent) (file_records l) r

abbrev pub AcceptedPrefix : List ℕ → ℕ → List ℕ → Round → Type 0
AcceptedPrefix first after lent r = Accepted (prefix_answer first after (length lent)) (prefix_list first after lent) (file_records first) r

-- What is not refused is accepted: a held round (that its test decides which rounds are led is `settle`'s third promise),
pub accepted_led_round : (r : Round) (lent : List ℕ) → Decides r (is_held r) → settle_number (settle_answer r (length lent)) ≡ 0
    → (records : List (List ℕ)) × AcceptedRound r lent records
accepted_led_round r lent decides z =
    let d = settled r lent z in
    let led = decides.led d.held in
    (led.0, accepts _ _ led.0 r led.1 d.finished (d.answer, d.list))

-- a file,
pub accepted_led_file : (l lent : List ℕ) → are_bytes l ≡ true → file_number (file_answer l (length lent)) ≡ 0 → (r : Round) × AcceptedFile l lent r
accepted_led_file l lent h z =
    let d = read_done (read_file l) lent z in
    ((read_file l).round, accepts _ _ (file_records l) (read_file l).round (read_leads l h d.0) d.1.finished (d.2, d.3))

-- and a file of which the first bytes are held: none comes after them.
pub accepted_led_prefix : (first : List ℕ) (after : ℕ) (lent : List ℕ) → are_bytes first ≡ true → file_number (prefix_answer first after (length lent)) ≡ 0
    → (after ≡ 0) × ((r : Round) × AcceptedPrefix first after lent r)
accepted_led_prefix first after lent h z =
    let none = prefix_ends first after (read_done (read_prefix first after) lent z).0 in
    (none, rw (none, prefix_none first) (accepted_led_file first lent h (rw (none, prefix_none first) at z)))

-- And what records, each accepted, lead to is not refused, where it is finished and the list is 35 long: a held round,
pub led_accepted_round : (r : Round) (lent : List ℕ) (records : List (List ℕ)) → length lent ≡ results_long → Leads fresh_round records r → is_finished r ≡ true
    → AcceptedRound r lent records
led_accepted_round r lent records room leads finished =
    accepts _ _ records r leads finished (settle_paid r lent (records, leads) room finished)

-- a file,
pub led_accepted_file : (l lent : List ℕ) (r : Round) → length l % 16 ≡ 0 → length lent ≡ results_long → Leads fresh_round (file_records l) r → is_finished r ≡ true
    → AcceptedFile l lent r
unfolding read_file
led_accepted_file l lent r even room leads finished =
    let read : read_file l ≡ stop r 0 (length (file_records l)) = simp even (leads_read (file_records l) r leads) in
    let p = read_paid (stop r 0 (length (file_records l))) lent (file_records l, leads) refl room finished in
    accepts _ _ (file_records l) r leads finished (rw read p)

-- and a file of which all bytes are held.
pub led_accepted_prefix : (first lent : List ℕ) (r : Round) → length first % 16 ≡ 0 → length lent ≡ results_long → Leads fresh_round (file_records first) r → is_finished r ≡ true
    → AcceptedPrefix first 0 lent r
led_accepted_prefix first lent r even room leads finished = rw (prefix_none first) (led_accepted_file first lent r even room leads finished)

-- A file is never answered 17, nor by more: its number is at most 16.
pub at_most_16_file : (l lent : List ℕ) → file_number (file_answer l (length lent)) ≤ 16
at_most_16_file l lent = read_most (read_file l) lent (read_held l) (read_number l)

pub at_most_16_prefix : (first : List ℕ) (after : ℕ) (lent : List ℕ) → file_number (prefix_answer first after (length lent)) ≤ 16
at_most_16_prefix first after lent = read_most (read_prefix first after) lent (prefix_held first after) (prefix_number first after)

-- Settling a file agrees with feeding its records one at a time, to the entry that takes a record, from the fresh round, stopping at the first
-- refusal, and else settling the held round.
pub by_records : (l lent : List ℕ) → length l % 16 ≡ 0
    → (file_answer l (length lent) ≡ read_answer (read_by takes fresh_round 0 (file_records l)) (length lent)) × (file_list l lent ≡ read_list (read_by takes fresh_round 0 (file_records l)) lent)
unfolding read_file
by_records l lent even =
    let same : read_file l ≡ read_by takes fresh_round 0 (file_records l) = simp even (sym (read_by_same takes take_feeds (file_records l))) in
    (ap (λ w. read_answer w (length lent)) same, ap (λ w. read_list w lent) same)

-- The refused record that is handed back is the one at the place that the refusal carries.
pub part_at_place : (l lent : List ℕ) → length lent ≡ results_long → (file_number (file_answer l (length lent)) ≡ 0 → ⊥)
    → refused_part l ≡ take 16 (drop (16 * file_place (file_answer l (length lent))) l)
unfolding refused_part
part_at_place l lent room n = rw (refused-place (read_file l) lent room n)

-- The first 34 records, and how many bytes come after them, are answered as the whole file is.
pub prefix_is_file : (l lent : List ℕ) → are_bytes l ≡ true
    → (prefix_answer (take (16 * held_records) l) (length l - 16 * held_records) (length lent) ≡ file_answer l (length lent))
    × (prefix_list (take (16 * held_records) l) (length l - 16 * held_records) lent ≡ file_list l lent)
prefix_is_file l lent h = (ap (λ w. read_answer w (length lent)) (prefix_whole l h), ap (λ w. read_list w lent) (prefix_whole l h))

-- ==== Demand 3. Of every accepted settlement, and of the amounts in the list that was given:

accepted_3 : {E : Type 0} (answer : Result Paid E) (list : List ℕ) (records : List (List ℕ)) (r : Round) → Accepted answer list records r → Demand3 r list
accepted_3 answer list records r a = rw a.listed (demand_3 r (records, a.leads) a.finished)

-- of a held round,
pub demand_3_round : (r : Round) (lent : List ℕ) → Decides r (is_held r) → settle_number (settle_answer r (length lent)) ≡ 0
    → (records : List (List ℕ)) × AcceptedRound r lent records × Demand3 r (settle_list r lent)
demand_3_round r lent decides z = let a = accepted_led_round r lent decides z in (a.0, a.1, accepted_3 _ _ a.0 r a.1)

-- of a file,
pub demand_3_file : (l lent : List ℕ) → are_bytes l ≡ true → file_number (file_answer l (length lent)) ≡ 0
    → (r : Round) × AcceptedFile l lent r × Demand3 r (file_list l lent)
demand_3_file l lent h z = let a = accepted_led_file l lent h z in (a.0, a.1, accepted_3 _ _ (file_records l) a.0 a.1)

-- and of a file of which the first bytes are held.
pub demand_3_prefix : (first : List ℕ) (after : ℕ) (lent : List ℕ) → are_bytes first ≡ true → file_number (prefix_answer first after (length lent)) ≡ 0
    → (r : Round) × AcceptedPrefix first after lent r × Demand3 r (prefix_list first after lent)
demand_3_prefix first after lent h z =
    let a = (accepted_led_prefix first after lent h z).1 in (a.0, a.1, accepted_3 _ _ (file_records first) a.0 a.1)

-- And of every settled round of a shift, in its own part of the list: round k, whose number among the answers is 0.
pub demand_3_shift : (l amounts answers : List ℕ) → are_bytes l ≡ true → shift_number (shift_answer l (lists_fit l amounts answers)) ≡ 0
    → (k : ℕ) → k < round_count l → get_or (shift_list round_answer l (lists_fit l amounts answers) answers) (answer_long * k) 0 ≡ 0
    → (r : Round) × AcceptedFile (get_or (shift_rounds l) k []) (replicate results_long 0) r
    × Demand3 r (take results_long (drop (results_long * k) (shift_list round_amounts l (lists_fit l amounts answers) amounts)))
demand_3_shift l amounts answers bytes z k h none =
    let s = settled_round l (lists_fit l amounts answers) z amounts answers bytes k h none in
    let d = demand_3_file (get_or (shift_rounds l) k []) (replicate results_long 0) s.0 s.1 in (d.0, d.1, rw s.2 d.2)

-- The whole round of document 01: its file is accepted, and its records lead to that round.
pub whole_accepted : (lent : List ℕ) → length lent ≡ results_long → AcceptedFile whole_file lent whole_round
whole_accepted lent room = led_accepted_file whole_file lent whole_round whole_even room whole_leads whole_finished

-- These are the answer to its file and the list that is then given, a seat on each line.
pub whole_file_lem : (lent : List ℕ) → length lent ≡ results_long
    → (file_answer whole_file (length lent) ≡ Ok (record { full = 600000; paid = 25000 }))
    × (file_list whole_file lent ≡ 2183300 ∷ 20500 ∷ 10500 ∷ 0 ∷ 0
    ∷ 516700 ∷ 0 ∷ 0 ∷ 0 ∷ 0
    ∷ 0 ∷ 0 ∷ 0 ∷ 0 ∷ 0
    ∷ 0 ∷ 0 ∷ 0 ∷ 0 ∷ 0
    ∷ 0 ∷ 0 ∷ 0 ∷ 0 ∷ 0
    ∷ 0 ∷ 0 ∷ 0 ∷ 0 ∷ 0
    ∷ 0 ∷ 0 ∷ 0 ∷ 0 ∷ 0 ∷ [])
whole_file_lem lent room =
    let a = whole_accepted lent room in (rw whole_pool at a.answered, a.listed ∙ whole_results)

-- There seat 1, with the royal flush, is paid its floor of 20,833 dollars and no more; the dollar that is left is seat 2's, whose floor is 4,166.
pub floor_is_paid : (lent : List ℕ) → length lent ≡ results_long
    → (floor_of whole_round.table (is_royal (hand_of whole_round 0)) (win whole_round 0) ≡ 20833) × (paid_of whole_round (file_list whole_file lent) 0 ≡ 100 * 20833)
    × (floor_of whole_round.table (is_royal (hand_of whole_round 1)) (win whole_round 1) ≡ 4166) × (paid_of whole_round (file_list whole_file lent) 1 ≡ 100 * 4167)
floor_is_paid lent room = rw (whole_accepted lent room).listed whole_floors

-- A straight flush reaches its floor too: where seat 2 raises 2 antes on streets two and three, the dollar left is seat 1's.
pub lower_accepted : (lent : List ℕ) → length lent ≡ results_long → AcceptedFile lower_file lent lower_round
lower_accepted lent room = led_accepted_file lower_file lent lower_round lower_even room lower_leads lower_finished

pub lower_floor_is_paid : (lent : List ℕ) → length lent ≡ results_long
    → (floor_of lower_round.table (is_royal (hand_of lower_round 1)) (win lower_round 1) ≡ 3448) × (paid_of lower_round (file_list lower_file lent) 1 ≡ 100 * 3448)
lower_floor_is_paid lent room = rw (lower_accepted lent room).listed lower_floor
