-- Which files are one round: those of which no record but the first is of kind 1, and so every accepted file, and every round of a shift.
-- Assumes nothing.
use Prim.Native.Nat.{ℕ, zero, suc, ◌%◌, ◌≤◌, ◌<◌}
use mathlib.Core.Path.{◌≡◌, refl, ap, sym, ◌∙◌}
use mathlib.Core.Bool.{Bool, true, false}
use mathlib.Core.List.{List, [], ◌∷◌, ◌++◌, append_assoc, append-nil}
use native.Mathlib.Omega.{arith}
use lib.Dec.{eqb}
use lib.ListN.{length, get_or, take, drop, length-append, length-drop}
use lib.Seq.{drop-append-le}
use Rattle.std.specs.Prelude.{if◌then◌else◌}
use Rattle.counting.specs.Count.{some_below}
use Rattle.counting.proofs.Tests.{clash}
use Rattle.records.specs.Bytes.{are_bytes}
use Rattle.records.specs.Seats.{any_plays}
use Rattle.seating.specs.Table.{has_table}
use Rattle.seating.proofs.Tables.{table_read}
use Rattle.round.specs.declared.Round.{Round}
use Rattle.round.specs.Order.{fresh_round}
use Rattle.round.specs.Feed.{feed}
use Rattle.led.specs.Led.{Leads}
use Rattle.led.specs.Led.Leads.{done, then as accepts}
use Rattle.led.proofs.Took.{Took, took}
use Rattle.led.proofs.Took.Took.{table, seat, part, choice}
use Rattle.reading.specs.File.{file_records, read_file}
use Rattle.reading.specs.Joined.{joined, Whole}
use Rattle.reading.proofs.Records.{records_cons, records_end, records_behind, joined_records, records_whole}
use Rattle.reading.proofs.Readings.{read_leads}
use Rattle.cutting.specs.Rounds.{starts_round, rounds_from, rounds_of, shift_rounds, round_count}
use Rattle.apart.specs.Apart.{StartNone, OneRound}

gathered : (l : List ℕ) (bs : List (List ℕ)) → StartNone bs → rounds_from l bs ≡ (l ++ joined bs) ∷ []
unfolding StartNone rounds_from joined
gathered l [] r = ap (λ (x : List ℕ). x ∷ []) (sym (append-nil l))
gathered l (b ∷ bs) r = simp r.0 (gathered (l ++ b) bs r.1 ∙ ap (λ (x : List ℕ). x ∷ []) (append_assoc l b (joined bs)))

-- A file of whole records, one or more, of which none but the first may be of kind 1, is one round.
pub single : (l : List ℕ) → length l % 16 ≡ 0 → 16 ≤ length l → StartNone (file_records (drop 16 l)) → OneRound l
unfolding shift_rounds rounds_of joined
single l even long n =
    let whole : take 16 l ++ joined (file_records (drop 16 l)) ≡ l = ap joined (sym (records_cons l long)) ∙ joined_records l even in
    (even, rw (records_cons l long) (gathered (take 16 l) (file_records (drop 16 l)) n ∙ ap (λ (x : List ℕ). x ∷ []) whole))

-- once the table was read no record of kind 1 is accepted
no_more_tables : {q r : Round} {bs : List (List ℕ)} → Leads q bs r → has_table q.table ≡ true → StartNone bs
unfolding StartNone
no_more_tables done h = tt
no_more_tables (accepts {r} {s} {l} b e a k) h = let t = go (feed r b).round (took r b a).1 in (t.0, no_more_tables k t.1)
  where
    go : (s : Round) → Took r b s → (starts_round b ≡ false) × (has_table s.table ≡ true)
    go s (table k n e) = clash (has_table r.table) h n
    go s (seat k m z e) = (ap (λ (x : ℕ). eqb x 1) k, h)
    go s (part k p l e) = (ap (λ (x : ℕ). eqb x 1) k, h)
    go s (choice k d o e) = (ap (λ (x : ℕ). eqb x 1) k, h)

-- the first is the table
first_table : (b : List ℕ) (s : Round) → Took fresh_round b s → has_table s.table ≡ true
unfolding any_plays some_below
first_table b s (table k h e) = table_read b e
first_table b s (seat k h z e) = clash false h refl
first_table b s (part k p h e) = clash false p refl
first_table b s (choice k d o e) = absurd (omega arith)

-- A file of which every record is accepted is one round.
pub accepted-one : (l : List ℕ) → are_bytes l ≡ true → length l % 16 ≡ 0 → 16 ≤ length l → (read_file l).number ≡ 0 → OneRound l
accepted-one l bytes even long z = single l even long (after (rw (records_cons l long) at (read_leads l bytes z)))
  where
    after : {r : Round} {b : List ℕ} {bs : List (List ℕ)} → Leads fresh_round (b ∷ bs) r → StartNone bs
    after (accepts b e a k) = no_more_tables k (first_table b _ (took fresh_round b a).1)

-- ---- and so is every round of a shift: none but its first record is of kind 1

abbrev Once : List ℕ → Type 0
Once r = StartNone (file_records (drop 16 r))

none_more : (bs : List (List ℕ)) (b : List ℕ) → StartNone bs → starts_round b ≡ false → StartNone (bs ++ (b ∷ []))
unfolding StartNone
none_more [] b n e = (e, tt)
none_more (c ∷ bs) b n e = (n.0, none_more bs b n.1 e)

-- a record that starts a round, and one more of the round that is open
once_first : (b : List ℕ) → length b ≡ 16 → Once b
unfolding StartNone
once_first b e = let none : file_records (drop 16 b) ≡ [] = records_end (drop 16 b) (rw length-drop (omega arith)) in rw none tt

once_more : (l b : List ℕ) → length l % 16 ≡ 0 → 16 ≤ length l → length b ≡ 16 → Once l → starts_round b ≡ false → Once (l ++ b)
once_more l b even long e o n =
    let rest : length (drop 16 l) % 16 ≡ 0 = rw length-drop (omega arith) in
    rw (drop-append-le 16 l b long, records_behind (drop 16 l) b rest e) (none_more (file_records (drop 16 l)) b o n)

from_once : (l : List ℕ) (bs : List (List ℕ)) → length l % 16 ≡ 0 → 16 ≤ length l → Once l → Whole bs
    → (k : ℕ) → k < length (rounds_from l bs) → Once (get_or (rounds_from l bs) k [])
unfolding rounds_from Whole
from_once l [] even long o w zero h = o
from_once l [] even long o w (suc k) h = absurd (omega arith)
from_once l (b ∷ bs) even long o w k h =
    go (starts_round b) refl k h (from_once b bs (omega (arith, w.0)) (omega (arith, w.0)) (once_first b w.0) w.1)
    (λ n. from_once (l ++ b) bs (rw length-append (omega (arith, w.0))) (rw length-append (omega arith)) (once_more l b even long w.0 o n) w.1)
  where
    go : (t : Bool) → starts_round b ≡ t → (k : ℕ) → k < length (if t then l ∷ rounds_from b bs else rounds_from (l ++ b) bs)
        → ((j : ℕ) → j < length (rounds_from b bs) → Once (get_or (rounds_from b bs) j []))
        → (starts_round b ≡ false → (j : ℕ) → j < length (rounds_from (l ++ b) bs) → Once (get_or (rounds_from (l ++ b) bs) j []))
        → Once (get_or (if t then l ∷ rounds_from b bs else rounds_from (l ++ b) bs) k [])
    go true e zero h next more = o
    go true e (suc j) h next more = next j (omega arith)
    go false e k h next more = more e k h

of_once : (bs : List (List ℕ)) → Whole bs → (k : ℕ) → k < length (rounds_of bs) → Once (get_or (rounds_of bs) k [])
unfolding rounds_of Whole
of_once [] w k h = absurd (omega arith)
of_once (b ∷ bs) w k h = from_once b bs (omega (arith, w.0)) (omega (arith, w.0)) (once_first b w.0) w.1 k h

-- So a table record is never refused by 3 in a shift.
pub starts_once : (l : List ℕ) (k : ℕ) → k < round_count l → StartNone (file_records (drop 16 (get_or (shift_rounds l) k [])))
unfolding shift_rounds
starts_once l = of_once (file_records l) (records_whole l)
