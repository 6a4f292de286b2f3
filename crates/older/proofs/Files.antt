-- A file that says nothing of All-Six is read as it was, offers none and is answered as it was, and its amounts are what they were with a 0 after each
-- seat's four. Every file that was accepted says nothing of it.
-- Assumes nothing.
use Prim.Native.Nat.{ℕ, ◌+◌, ◌/◌, ◌%◌}
use mathlib.Core.Path.{◌≡◌, refl, ap, sym, ◌∙◌}
use mathlib.Core.Bool.{Bool, true, false, not, ◌&&◌}
use mathlib.Core.List.{List, [], ◌∷◌}
use native.Mathlib.Omega.{arith}
use lib.Dec.{eqb}
use lib.ListN.{length}
use borrow.Author.Tests.{eqb-true, eqb-false}
use Rattle.std.specs.Prelude.{Ok, Err, if◌then◌else◌}
use Rattle.counting.proofs.Tests.{and_true, both}
use Rattle.counting.proofs.Gathers.{gather-length}
use Rattle.round.specs.declared.Round.{Round}
use Rattle.round.specs.declared.Step.{Step}
use Rattle.round.specs.Order.{fresh_round, is_finished}
use Rattle.round.specs.Feed.{feed, number_of}
use Rattle.led.specs.Led.{is_taken}
use Rattle.led.specs.Held.{is_held}
use Rattle.reading.specs.declared.Reading.{Reading}
use Rattle.reading.specs.File.{stop, read_by, file_records, read_file}
use Rattle.reading.proofs.Readings.{read_held}
use Rattle.results.specs.Results.{results_long}
use Rattle.settlement.specs.Settle.{faulty_at, settle_refusal, read_refusal, read_place, read_answer, read_list, file_answer, file_list, file_number}
use Rattle.settlement.proofs.Answers.{file_number_lem}
use Rattle.older.specs.Records.{says_nothing, all_say_nothing, Older, old_feed, old_read_file}
use Rattle.older.specs.Amounts.{old_amounts, old_results, widened, old_paid, old_answer, old_file_answer, old_file_results}
use Rattle.older.proofs.Records.{same_feed, taken_says, old_number, still_unoffered}
use Rattle.older.proofs.Amounts.{same_pool, same_results}

-- ---- the records one after the other

-- what is read from a record on by what it was answered, and the rest
abbrev onward : Round → ℕ → (Round → Reading) → Step → Reading
onward r p rest s = if is_taken s.answer then rest s.round else stop r (number_of s.answer) p

-- equal answers and equal rests read alike
onward_same : (r : Round) (p : ℕ) (f g : Round → Reading) (s t : Step) → s ≡ t → f t.round ≡ g t.round → onward r p f s ≡ onward r p g t
onward_same r p f g s t e rest = ap (onward r p f) e ∙ go (is_taken t.answer)
  where
    go : (taken : Bool) → (if taken then f t.round else stop r (number_of t.answer) p) ≡ (if taken then g t.round else stop r (number_of t.answer) p)
    go true = rest
    go false = refl

records_same : (bs : List (List ℕ)) (r : Round) (p : ℕ) → all_say_nothing bs ≡ true → read_by feed r p bs ≡ read_by old_feed r p bs
unfolding read_by all_say_nothing
records_same [] r p e = refl
records_same (b ∷ bs) r p e =
    let says = and_true (says_nothing b) (all_say_nothing bs) e in
    onward_same r p (λ q. read_by feed q (p + 1) bs) (λ q. read_by old_feed q (p + 1) bs) (feed r b) (old_feed r b) (same_feed b r says.0)
    (records_same bs (old_feed r b).round (p + 1) says.1)

records_say : (bs : List (List ℕ)) (r : Round) (p : ℕ) → (read_by old_feed r p bs).number ≡ 0 → all_say_nothing bs ≡ true
unfolding read_by all_say_nothing
records_say [] r p z = refl
records_say (b ∷ bs) r p z = go (is_taken (old_feed r b).answer) refl (records_say bs (old_feed r b).round (p + 1)) z
  where
    go : (t : Bool) → is_taken (old_feed r b).answer ≡ t → ((read_by old_feed (old_feed r b).round (p + 1) bs).number ≡ 0 → all_say_nothing bs ≡ true)
        → (if t then read_by old_feed (old_feed r b).round (p + 1) bs else stop r (number_of (old_feed r b).answer) p).number ≡ 0
        → (says_nothing b && all_say_nothing bs) ≡ true
    go true a rest y =
        both (says_nothing b) (all_say_nothing bs)
        (taken_says b r (sym (old_number b r) ∙ eqb-true (number_of (old_feed r b).answer) 0 a))
        (rest y)
    go false a rest y = absurd (eqb-false (number_of (old_feed r b).answer) 0 a y)

records_unoffered : (bs : List (List ℕ)) (r : Round) (p : ℕ) → r.table.six ≡ 0 → (read_by old_feed r p bs).round.table.six ≡ 0
unfolding read_by
records_unoffered [] r p z = z
records_unoffered (b ∷ bs) r p z = go (is_taken (old_feed r b).answer) (records_unoffered bs (old_feed r b).round (p + 1) (still_unoffered b r z))
  where
    go : (t : Bool) → (read_by old_feed (old_feed r b).round (p + 1) bs).round.table.six ≡ 0
        → (if t then read_by old_feed (old_feed r b).round (p + 1) bs else stop r (number_of (old_feed r b).answer) p).round.table.six ≡ 0
    go true y = y
    go false y = z

-- ---- a file

pub old_read : (l : List ℕ) → Older l → read_file l ≡ old_read_file l
unfolding read_file old_read_file
old_read l e = rw (records_same (file_records l) fresh_round 0 e)

pub old_accepted : (l : List ℕ) → (old_read_file l).number ≡ 0 → Older l
unfolding old_read_file
old_accepted l = go (eqb (length l % 16) 0)
  where
    go : (t : Bool) → (if not t then stop fresh_round 2 (length l / 16) else read_by old_feed fresh_round 0 (file_records l)).number ≡ 0 → Older l
    go true z = records_say (file_records l) fresh_round 0 z
    go false z = absurd (omega arith)

pub old_unoffered : (l : List ℕ) → Older l → (read_file l).round.table.six ≡ 0
unfolding old_read_file
old_unoffered l e = rw (old_read l e) (go (eqb (length l % 16) 0))
  where
    go : (t : Bool) → (if not t then stop fresh_round 2 (length l / 16) else read_by old_feed fresh_round 0 (file_records l)).round.table.six ≡ 0
    go true = records_unoffered (file_records l) fresh_round 0 refl
    go false = refl

-- what a reading is answered, where the round that is then held offers no All-Six
reading_answer : (w : Reading) → is_held w.round ≡ true → w.round.table.six ≡ 0 → read_answer w results_long ≡ old_answer w
unfolding read_answer read_refusal settle_refusal read_place old_answer
reading_answer w held none = simp (held, same_pool w.round none) (go (eqb w.number 0) refl (is_finished w.round))
  where
    go : (t : Bool) → eqb w.number 0 ≡ t → (f : Bool)
        → (if not (eqb (if not t then w.number else if not f then 16 else 0) 0) then Err (faulty_at (if not t then w.number else if not f then 16 else 0) w.place)
        else Ok (old_paid w.round))
        ≡ (if not t then Err (faulty_at w.number w.place) else if not f then Err (faulty_at 16 w.place) else Ok (old_paid w.round))
    go true e true = refl
    go true e false = refl
    go false e f = simp e

pub old_answer_lem : (l : List ℕ) → Older l → file_answer l results_long ≡ old_file_answer l
old_answer_lem l e = reading_answer (read_file l) (read_held l) (old_unoffered l e) ∙ ap old_answer (old_read l e)

pub old_list : (l lent : List ℕ) → Older l → length lent ≡ results_long → file_number (file_answer l results_long) ≡ 0 → file_list l lent ≡ widened (old_file_results l)
unfolding read_list
old_list l lent e long z =
    let paid : read_refusal (read_file l) results_long ≡ 0 = sym (file_number_lem (read_file l) results_long) ∙ z in
    simp (long, paid) (same_results (read_file l).round (old_unoffered l e) ∙ ap (λ (w : Reading). widened (old_results w.round)) (old_read l e))

pub old_long : (r : Round) → length (old_results r) ≡ 28
unfolding old_results old_amounts
old_long r = gather-length 4 (old_amounts r) 7 (λ k h. refl)
