-- The answers of the entries and what the lent list then holds, case by case; and what is promised of an answer.
-- Assumes nothing.
use Prim.Native.Nat.{ℕ, ◌≤◌}
use mathlib.Core.Path.{◌≡◌, refl, ap, ◌∙◌}
use mathlib.Core.Bool.{Bool, true, false, not}
use mathlib.Core.List.{List}
use native.Mathlib.Omega.{arith}
use lib.Dec.{eqb}
use lib.ListN.{length}
use borrow.Author.Tests.{eq-eqb, ne_eqb, eqb-true}
use Rattle.std.specs.Prelude.{Result, Ok, Err, if◌then◌else◌}
use Rattle.causes.specs.declared.Refusal.{Refusal}
use Rattle.causes.specs.declared.Refusal.TheVariants.{ListLength, NotFinished, NotHeld}
use Rattle.causes.specs.Refusal.{cause, answered}
use Rattle.counting.specs.Choose.{unless_refused}
use Rattle.counting.proofs.Answers.{by_number, by_values}
use Rattle.round.specs.declared.Round.{Round}
use Rattle.round.specs.Order.{is_finished}
use Rattle.led.specs.Held.{is_held}
use Rattle.held.specs.Take.{Decides}
use Rattle.held.proofs.Answers.{decided}
use Rattle.reading.specs.declared.Reading.{Reading}
use Rattle.results.specs.Results.{results_long, results}
use Rattle.settlement.specs.declared.Paid.{Paid}
use Rattle.settlement.specs.declared.Faulty.{Faulty}
use Rattle.settlement.specs.Settle.{settled_pool, faulty_at, settle_refusal, settle_answer, settle_list, settle_number, settle_pool, full_and_paid, read_refusal, read_place, read_answer, read_list, file_number, file_place, file_pool, counted_place, read_pool, at_place}

-- ---- a round

module _ (r : Round) (lent : List ℕ) where
  -- the answer, and the list
  abbrev pub Settles : Result Paid Refusal → List ℕ → Type 0
  Settles given new = record { answer : given ≡ settle_answer r (length lent); list : new ≡ settle_list r lent }

  pub not_held : is_held r ≡ false → Settles (Err NotHeld) lent
  unfolding answered settle_refusal settle_answer settle_list
  not_held h = record { answer = simp h; list = simp h }

  module _ (h : is_held r ≡ true) where
    pub wrong_room : (length lent ≡ results_long → ⊥) → Settles (Err ListLength) lent
    unfolding answered settle_refusal settle_answer settle_list
    wrong_room n =
        let wrong = ne_eqb (length lent) results_long n in record { answer = simp (h, wrong); list = simp (h, wrong) }

    pub unfinished : length lent ≡ results_long → is_finished r ≡ false → Settles (Err NotFinished) lent
    unfolding answered settle_refusal settle_answer settle_list
    unfinished e f = record { answer = simp (h, e, f); list = simp (h, e, f) }

    pub all_paid : length lent ≡ results_long → is_finished r ≡ true → (new : List ℕ) → new ≡ results r → Settles (Ok (settled_pool r)) new
    unfolding answered settle_refusal settle_answer settle_list
    all_paid e f new q = record { answer = simp (h, e, f); list = simp (h, e, f) q }

module _ (r : Round) (room : ℕ) where
  pub settle_number_lem : settle_number (settle_answer r room) ≡ settle_refusal r room
  unfolding answered settle_answer settle_refusal
  settle_number_lem = go (is_held r) (eqb room results_long) (is_finished r)
    where
      go : (held right finished : Bool) →
          let n : ℕ = if not held then 17 else if not right then 1 else if not finished then 16 else 0 in
          settle_number (answered n (settled_pool r)) ≡ n
      go false right finished = refl
      go true false finished = refl
      go true true false = refl
      go true true true = refl

  pub settle_pool_lem : settle_pool (settle_answer r room) ≡ unless_refused (settle_refusal r room) (full_and_paid r)
  unfolding answered settle_answer
  settle_pool_lem =
      by_values (settle_refusal r room) (λ none. if none then Ok (settled_pool r) else Err (cause (settle_refusal r room))) settle_pool (full_and_paid r) refl refl

-- what settle promises
pub round_promised : (r : Round) (lent : List ℕ) (given : Result Paid Refusal) (new : List ℕ) (t : Bool) → Settles r lent given new → Decides r t
    → record {
      answer : given ≡ settle_answer r (length lent);
      number : settle_number given ≡ settle_refusal r (length lent);
      pool : settle_pool given ≡ unless_refused (settle_refusal r (length lent)) (full_and_paid r);
      list : new ≡ settle_list r lent;
      held : Decides r (is_held r);
    }
round_promised r lent given new t s d =
    record {
      answer = s.answer;
      number = ap settle_number s.answer ∙ settle_number_lem r (length lent);
      pool = ap settle_pool s.answer ∙ settle_pool_lem r (length lent);
      list = s.list;
      held = decided r t d;
    }

-- ---- a file

module _ (w : Reading) (room : ℕ) where
  abbrev file_by : Bool → Result Paid Faulty
  file_by none = if not none then Err (faulty_at (read_refusal w room) (read_place w room)) else Ok (settled_pool w.round)

  pub file_number_lem : file_number (read_answer w room) ≡ read_refusal w room
  unfolding read_answer
  file_number_lem = by_number (read_refusal w room) file_by file_number refl refl

  pub file_pool_lem : file_pool (read_answer w room) ≡ read_pool w room
  unfolding read_answer
  file_pool_lem = by_values (read_refusal w room) file_by file_pool (full_and_paid w.round) refl refl

  -- a reading whose number is at most 15, and which ends with none at the count of whole records
  module _ (count : ℕ) (most : w.number ≤ 15) (all : w.number ≡ 0 → w.place ≡ count) where
    at_16 : read_refusal w room ≡ 16 → read_place w room ≡ count
    unfolding read_refusal read_place
    at_16 = go (eqb room results_long) (eqb w.number 0) refl
      where
        go : (a b : Bool) → eqb w.number 0 ≡ b → (if not a then 1 else if not b then w.number else settle_refusal w.round room) ≡ 16 → (if not a then 0 else w.place) ≡ count
        go false b q e = absurd (omega arith)
        go true false q e = absurd (omega arith)
        go true true q e = all (eqb-true w.number 0 q)

    pub file_place_lem : file_place (read_answer w room) ≡ counted_place w count room
    unfolding read_answer counted_place
    file_place_lem = go (eqb (read_refusal w room) 0) (eqb (read_refusal w room) 16) refl
      where
        go : (none b : Bool) → eqb (read_refusal w room) 16 ≡ b → file_place (file_by none) ≡ (if none then 0 else if b then count else read_place w room)
        go true b q = refl
        go false true q = at_16 (eqb-true (read_refusal w room) 16 q)
        go false false q = refl

-- at a place of a file the answer for a round has its number and that place
at_place_lem : (r : Round) (room place : ℕ)
    → at_place place (settle_answer r room)
    ≡ (if not (eqb (settle_refusal r room) 0) then Err (faulty_at (settle_refusal r room) place) else Ok (settled_pool r))
unfolding answered settle_answer settle_refusal
at_place_lem r room place = go (is_held r) (eqb room results_long) (is_finished r)
  where
    go : (held right finished : Bool) →
        let n : ℕ = if not held then 17 else if not right then 1 else if not finished then 16 else 0 in
        at_place place (answered n (settled_pool r)) ≡ (if not (eqb n 0) then Err (faulty_at n place) else Ok (settled_pool r))
    go false right finished = refl
    go true false finished = refl
    go true true false = refl
    go true true true = refl

module _ (w : Reading) (lent : List ℕ) where
  -- the answer, and the list
  abbrev pub SettlesFile : Result Paid Faulty → List ℕ → Type 0
  SettlesFile given new = record { answer : given ≡ read_answer w (length lent); list : new ≡ read_list w lent }

  pub read_room : (length lent ≡ results_long → ⊥) → SettlesFile (Err (faulty_at 1 0)) lent
  unfolding read_refusal read_place read_answer read_list
  read_room n = let wrong = ne_eqb (length lent) results_long n in record { answer = simp wrong; list = simp wrong }

  module _ (e : length lent ≡ results_long) where
    pub read_refused : (w.number ≡ 0 → ⊥) → SettlesFile (Err (faulty_at w.number w.place)) lent
    unfolding read_refusal read_place read_answer read_list
    read_refused n = let some = ne_eqb w.number 0 n in record { answer = simp (e, some); list = simp (e, some) }

    -- else it is the answer for the held round, and its list
    pub read_settled : w.number ≡ 0 → (answer : Result Paid Refusal) (new : List ℕ) → Settles w.round lent answer new → SettlesFile (at_place w.place answer) new
    unfolding settle_list read_refusal read_place read_answer read_list
    read_settled z answer new s =
        let right = eq-eqb (length lent) results_long e in
        record {
          answer = simp (s.answer, z, right) (at_place_lem w.round (length lent) w.place);
          list = simp (z, right) s.list;
        }

-- what settle_file and settle_prefix promise
pub file_promised : (w : Reading) (count : ℕ) (lent : List ℕ) (given : Result Paid Faulty) (new : List ℕ) → w.number ≤ 15 → (w.number ≡ 0 → w.place ≡ count)
    → SettlesFile w lent given new
    → record {
      answer : given ≡ read_answer w (length lent);
      number : file_number given ≡ read_refusal w (length lent);
      place : file_place given ≡ counted_place w count (length lent);
      pool : file_pool given ≡ read_pool w (length lent);
      list : new ≡ read_list w lent;
    }
file_promised w count lent given new most all s =
    let room = length lent in
    record {
      answer = s.answer;
      number = ap file_number s.answer ∙ file_number_lem w room;
      place = ap file_place s.answer ∙ file_place_lem w room count most all;
      pool = ap file_pool s.answer ∙ file_pool_lem w room;
      list = s.list;
    }
