-- What the answer to a round, or to what was read of a file, says: where it is a refusal the lent list is as it was, and where it is none, the
-- round is finished and the list holds its results.
-- Assumes nothing.
use Prim.Native.Nat.{ℕ, ◌≤◌}
use mathlib.Core.Path.{◌≡◌, refl, sym, ◌∙◌}
use mathlib.Core.Bool.{Bool, true, false, not}
use mathlib.Core.List.{List}
use native.Mathlib.Omega.{arith}
use lib.Dec.{eqb}
use lib.ListN.{length}
use borrow.Author.Tests.{eqb-true, eqb-false, eq-eqb, ne_eqb}
use Rattle.std.specs.Prelude.{Ok, if◌then◌else◌}
use Rattle.causes.specs.Refusal.{answered}
use Rattle.counting.proofs.Tests.{passed}
use Rattle.round.specs.declared.Round.{Round}
use Rattle.round.specs.Order.{is_finished}
use Rattle.led.specs.Held.{is_held}
use Rattle.led.specs.Led.{Led}
use Rattle.led.proofs.Kept.{led-held}
use Rattle.reading.specs.declared.Reading.{Reading}
use Rattle.results.specs.Results.{results_long, results}
use Rattle.settlement.proofs.Answers.{all_paid, settle_number_lem, file_number_lem}
use Rattle.settlement.specs.Settle.{settled_pool, settle_refusal, settle_answer, settle_list, settle_number, read_refusal, read_place, read_answer, read_list, file_number, file_place}

-- ---- a round

module _ (r : Round) (lent : List ℕ) where
  pub settle_left : (settle_number (settle_answer r (length lent)) ≡ 0 → ⊥) → settle_list r lent ≡ lent
  unfolding settle_list
  settle_left n = simp (ne_eqb (settle_refusal r (length lent)) 0 (λ e. n (settle_number_lem r (length lent) ∙ e)))

  -- no refusal: the round is held, the list has 35 places, the round is finished, and the results are written
  pub record Done : Type 0 where
    pub held : is_held r ≡ true
    pub room : length lent ≡ results_long
    pub finished : is_finished r ≡ true
    pub answer : settle_answer r (length lent) ≡ Ok (settled_pool r)
    pub list : settle_list r lent ≡ results r

  pub settled : settle_number (settle_answer r (length lent)) ≡ 0 → Done
  unfolding answered settle_refusal settle_answer settle_list
  settled z =
      let none : settle_refusal r (length lent) ≡ 0 = sym (settle_number_lem r (length lent)) ∙ z in
      let held = passed (is_held r) 16 (if not (eqb (length lent) results_long) then 1 else if not (is_finished r) then 16 else 0) none in
      let room = passed (eqb (length lent) results_long) 0 (if not (is_finished r) then 16 else 0) held.1 in
      let done = passed (is_finished r) 15 0 room.1 in
      record { held = held.0; room = eqb-true (length lent) results_long room.0; finished = done.0; answer = simp none; list = simp none }

  pub settle_paid : Led r → length lent ≡ results_long → is_finished r ≡ true → (settle_answer r (length lent) ≡ Ok (settled_pool r)) × (settle_list r lent ≡ results r)
  settle_paid l e f = let paid = all_paid r lent (led-held r l) e f (results r) refl in (sym paid.answer, sym paid.list)

  -- a held round is refused by 1 or 16
  settle_most : is_held r ≡ true → settle_refusal r (length lent) ≤ 16
  unfolding settle_refusal
  settle_most h = simp h (go (eqb (length lent) results_long) (is_finished r))
    where
      go : (room finished : Bool) → (if not room then 1 else if not finished then 16 else 0) ≤ 16
      go false finished = omega arith
      go true false = omega arith
      go true true = omega arith

-- ---- a reading

none_of : (n rest : ℕ) → (if not (eqb n 0) then n else rest) ≡ 0 → (n ≡ 0) × (rest ≡ 0)
none_of n rest = go (eqb n 0) refl
  where
    go : (none : Bool) → eqb n 0 ≡ none → (if not none then n else rest) ≡ 0 → (n ≡ 0) × (rest ≡ 0)
    go true q e = (eqb-true n 0 q, e)
    go false q e = absurd (eqb-false n 0 q e)

module _ (w : Reading) (lent : List ℕ) where
  pub read_left : (file_number (read_answer w (length lent)) ≡ 0 → ⊥) → read_list w lent ≡ lent
  unfolding read_list
  read_left n = simp (ne_eqb (read_refusal w (length lent)) 0 (λ e. n (file_number_lem w (length lent) ∙ e)))

  pub read_done : file_number (read_answer w (length lent)) ≡ 0
      → (w.number ≡ 0) × Done w.round lent × (read_answer w (length lent) ≡ Ok (settled_pool w.round)) × (read_list w lent ≡ results w.round)
  unfolding read_refusal read_answer read_list
  read_done z =
      let none : read_refusal w (length lent) ≡ 0 = sym (file_number_lem w (length lent)) ∙ z in
      let rest = settle_refusal w.round (length lent) in
      let room = passed (eqb (length lent) results_long) 0 (if not (eqb w.number 0) then w.number else rest) none in
      let read = none_of w.number rest room.1 in
      (read.0, settled w.round lent (settle_number_lem w.round (length lent) ∙ read.1), simp none, simp none)

  pub read_paid : Led w.round → w.number ≡ 0 → length lent ≡ results_long → is_finished w.round ≡ true
      → (read_answer w (length lent) ≡ Ok (settled_pool w.round)) × (read_list w lent ≡ results w.round)
  unfolding settle_refusal read_refusal read_answer read_list
  read_paid l z e f = let h = led-held w.round l in (simp (h, z, e, f), simp (h, z, e, f))

  -- a reading that holds a round, and whose number is at most 15, is answered by at most 16
  pub read_most : is_held w.round ≡ true → w.number ≤ 15 → file_number (read_answer w (length lent)) ≤ 16
  unfolding read_refusal
  read_most h m = rw (file_number_lem w (length lent)) (go (eqb (length lent) results_long) (eqb w.number 0))
    where
      go : (room none : Bool) → (if not room then 1 else if not none then w.number else settle_refusal w.round (length lent)) ≤ 16
      go false none = omega arith
      go true false = omega arith
      go true true = settle_most w.round lent h

  -- a refusal that isn't of the list carries the place where reading ended
  pub refused-place : length lent ≡ results_long → (file_number (read_answer w (length lent)) ≡ 0 → ⊥) → file_place (read_answer w (length lent)) ≡ w.place
  unfolding read_place read_answer
  refused-place e n = simp (ne_eqb (read_refusal w (length lent)) 0 (λ q. n (file_number_lem w (length lent) ∙ q)), eq-eqb (length lent) results_long e)
