-- What a shift is answered and what the lent lists then hold, case by case; and what is promised of the answer.
-- Assumes nothing.
use Prim.Native.Nat.{ℕ, ◌*◌, ◌/◌, ◌%◌}
use mathlib.Core.Path.{◌≡◌, refl, ap, sym, ◌∙◌}
use mathlib.Core.Bool.{Bool, true, false, not, ◌&&◌}
use mathlib.Core.List.{List, [], ◌∷◌}
use native.Mathlib.Omega.{arith}
use lib.Dec.{eqb}
use lib.ListN.{length}
use borrow.Author.Tests.{ne_eqb, eqb-true}
use Rattle.std.specs.Prelude.{Result, Ok, Err, if◌then◌else◌}
use Rattle.counting.specs.Choose.{unless_refused}
use Rattle.counting.proofs.Answers.{by_number, by_values}
use Rattle.counting.proofs.Tests.{and_true}
use Rattle.results.specs.Results.{results_long}
use Rattle.cutting.specs.Rounds.{round_count}
use Rattle.settlement.specs.declared.Faulty.{Faulty}
use Rattle.settlement.specs.Settle.{faulty_at}
use Rattle.shifts.specs.Shift.{round_amounts, round_answer, answer_long, in_turn, lists_fit, shift_refusal, shift_place, shift_answer, shift_list, shift_number, answer_place, answer_rounds}

-- what the code finds of both lists, by the number of rounds
pub fit_told : (l amounts answers : List ℕ) (rounds : ℕ) (t : Bool) → rounds ≡ round_count l
    → t ≡ (eqb (length amounts) (results_long * rounds) && eqb (length answers) (answer_long * rounds)) → lists_fit l amounts answers ≡ t
fit_told l amounts answers rounds t n e = rw (← n) (sym e)

-- both lists are right
pub both_right : (l amounts answers : List ℕ) → lists_fit l amounts answers ≡ true
    → (length amounts ≡ results_long * round_count l) × (length answers ≡ answer_long * round_count l)
both_right l amounts answers t =
    let s = and_true (eqb (length amounts) (results_long * round_count l)) (eqb (length answers) (answer_long * round_count l)) t in
    (eqb-true _ _ s.0, eqb-true _ _ s.1)

module _ (l : List ℕ) (fit : Bool) (amounts answers : List ℕ) where
  -- the answer, and both lists
  abbrev pub Settles : Result ℕ Faulty → List ℕ → List ℕ → Type 0
  Settles answer xs ys =
      (answer ≡ shift_answer l fit) × ((xs ≡ shift_list round_amounts l fit amounts) × (ys ≡ shift_list round_answer l fit answers))

  pub odd_tail : (length l % 16 ≡ 0 → ⊥) → Settles (Err (faulty_at 2 (length l / 16))) amounts answers
  unfolding shift_refusal shift_place shift_answer shift_list
  odd_tail n = let odd = ne_eqb (length l % 16) 0 n in (simp odd, (simp odd, simp odd))

  module _ (even : length l % 16 ≡ 0) where
    pub wrong_lists : fit ≡ false → Settles (Err (faulty_at 1 0)) amounts answers
    unfolding shift_refusal shift_place shift_answer shift_list
    wrong_lists f = (simp (even, f), (simp (even, f), simp (even, f)))

    pub all_settled : fit ≡ true → (rounds : ℕ) (xs ys : List ℕ) → rounds ≡ round_count l → xs ≡ in_turn round_amounts l → ys ≡ in_turn round_answer l
        → Settles (Ok rounds) xs ys
    unfolding shift_refusal shift_place shift_answer shift_list
    all_settled f rounds xs ys n a b = (simp (even, f, n), (simp (even, f) a, simp (even, f) b))

module _ (l : List ℕ) (fit : Bool) where
  abbrev answer_by : Bool → Result ℕ Faulty
  answer_by none = if not none then Err (faulty_at (shift_refusal l fit) (shift_place l)) else Ok (round_count l)

  pub shift_number_lem : shift_number (shift_answer l fit) ≡ shift_refusal l fit
  unfolding shift_answer
  shift_number_lem = by_number (shift_refusal l fit) answer_by shift_number refl refl

  shift_rounds_lem : answer_rounds (shift_answer l fit) ≡ unless_refused (shift_refusal l fit) (round_count l ∷ [])
  unfolding shift_answer
  shift_rounds_lem = by_values (shift_refusal l fit) answer_by answer_rounds (round_count l ∷ []) refl refl

  shift_place_lem : answer_place (shift_answer l fit) ≡ shift_place l
  unfolding shift_answer shift_refusal shift_place
  shift_place_lem = go (eqb (length l % 16) 0) fit
    where
      go : (even fit : Bool) →
          let place : ℕ = if not even then length l / 16 else 0 in
          let number : ℕ = if not even then 2 else if not fit then 1 else 0 in
          answer_place (if not (eqb number 0) then Err (faulty_at number place) else Ok (round_count l)) ≡ place
      go false fit = refl
      go true false = refl
      go true true = refl

-- what settle_shift promises
pub shift_promised : (l : List ℕ) (fit : Bool) (amounts answers : List ℕ) (given : Result ℕ Faulty) (xs ys : List ℕ) → Settles l fit amounts answers given xs ys
    → record {
      answer : given ≡ shift_answer l fit;
      number : shift_number given ≡ shift_refusal l fit;
      place : answer_place given ≡ shift_place l;
      rounds : answer_rounds given ≡ unless_refused (shift_refusal l fit) (round_count l ∷ []);
      amounts : xs ≡ shift_list round_amounts l fit amounts;
      answers : ys ≡ shift_list round_answer l fit answers;
    }
shift_promised l fit amounts answers given xs ys s =
    record {
      answer = s.0;
      number = ap shift_number s.0 ∙ shift_number_lem l fit;
      place = ap answer_place s.0 ∙ shift_place_lem l fit;
      rounds = ap answer_rounds s.0 ∙ shift_rounds_lem l fit;
      amounts = s.1.0;
      answers = s.1.1;
    }

-- A refused shift changes no list,
pub shift_left : (give : List ℕ → List ℕ) (l : List ℕ) (fit : Bool) (lent : List ℕ) → (shift_number (shift_answer l fit) ≡ 0 → ⊥) → shift_list give l fit lent ≡ lent
unfolding shift_list
shift_left give l fit lent n = simp (ne_eqb (shift_refusal l fit) 0 (λ e. n (shift_number_lem l fit ∙ e)))

-- and a settled one, which is of whole records, has in each what its rounds give.
module _ (l : List ℕ) (fit : Bool) (z : shift_number (shift_answer l fit) ≡ 0) where
  none : shift_refusal l fit ≡ 0
  none = sym (shift_number_lem l fit) ∙ z

  pub settled_list : (give : List ℕ → List ℕ) (lent : List ℕ) → shift_list give l fit lent ≡ in_turn give l
  unfolding shift_list
  settled_list give lent = simp none

  pub settled_whole : length l % 16 ≡ 0
  unfolding shift_refusal
  settled_whole = go (eqb (length l % 16) 0) refl none
    where
      go : (t : Bool) → eqb (length l % 16) 0 ≡ t → ◌≡◌ {A = ℕ} (if not t then 2 else if not fit then 1 else 0) 0 → length l % 16 ≡ 0
      go true q e = eqb-true (length l % 16) 0 q
      go false q e = absurd (omega arith)

  pub settled_fit : fit ≡ true
  unfolding shift_refusal
  settled_fit = go (eqb (length l % 16) 0) fit none
    where
      go : (t f : Bool) → ◌≡◌ {A = ℕ} (if not t then 2 else if not f then 1 else 0) 0 → f ≡ true
      go true true e = refl
      go true false e = absurd (omega arith)
      go false f e = absurd (omega arith)
