-- What writing a round is answered and what the room then holds, case by case.
-- Assumes nothing.
use Prim.Native.Nat.{ℕ}
use mathlib.Core.Path.{◌≡◌, refl, ap, sym, ◌∙◌}
use mathlib.Core.Bool.{Bool, true, false, not}
use mathlib.Core.List.{List}
use lib.ListN.{length}
use borrow.Author.Tests.{ne_eqb}
use Rattle.std.specs.Prelude.{if◌then◌else◌, eqb, Result}
use Rattle.counting.proofs.Tests.{passed}
use Rattle.seating.specs.Table.{has_table}
use Rattle.round.specs.declared.Round.{Round}
use Rattle.led.specs.Led.{Led}
use Rattle.led.specs.Held.{is_held}
use Rattle.held.specs.Take.{Decides}
use Rattle.held.proofs.Answers.{decided}
use Rattle.causes.specs.declared.Refusal.{Refusal}
use Rattle.causes.specs.Refusal.{number_of, answered}
use Rattle.writing.specs.Write.{file_of, file_long, write_refusal, write_answer, write_list}
use Rattle.writing.proofs.Files.{file_long_lem}

-- where these are the three tests
answer_number : (held table room : Bool) (n : ℕ) → n ≡ (if not held then 17 else if not table then 16 else if not room then 1 else 0)
    → number_of (answered n (tt {0})) ≡ n
unfolding answered
answer_number true true true n e = rw e
answer_number true true false n e = rw e
answer_number true false room n e = rw e
answer_number false table room n e = rw e

pub write_number_lem : (r : Round) (room : ℕ) → number_of (write_answer r room) ≡ write_refusal r room
unfolding write_answer write_refusal
write_number_lem r room = answer_number (is_held r) (has_table r.table) (eqb room (length (file_of r))) (write_refusal r room) refl

-- where `held` is what the test of the round answered
module _ (r : Round) (lent : List ℕ) (held : Bool) (d : Decides r held) where
  -- what is promised of the answer and of the room
  abbrev pub Promised : Result (Unit {0}) Refusal → List ℕ → Type 0
  Promised told new = record {
    answer : told ≡ write_answer r (length lent);
    number : number_of told ≡ write_refusal r (length lent);
    list : new ≡ write_list r lent;
    held : Decides r (is_held r);
  }

  -- it is kept where n is the number of the refusal
  pub promised : (n : ℕ) → write_refusal r (length lent) ≡ n → Promised (answered n tt) (if not (eqb n 0) then lent else file_of r)
  unfolding write_answer write_list
  promised n e = record {
    answer = ap (λ k. answered k tt) (sym e);
    number = ap (λ k. number_of (answered k (tt {0}))) (sym e) ∙ write_number_lem r (length lent);
    list = ap (λ k. if not (eqb k 0) then lent else file_of r) (sym e);
    held = decided r held d;
  }

  pub as_long : held ≡ true → file_long r ≡ length (file_of r)
  as_long a = sym (file_long_lem r (d.led a))

-- ---- a refusal, and a file that is written

pub write_left : (r : Round) (lent : List ℕ) → (number_of (write_answer r (length lent)) ≡ 0 → ⊥) → write_list r lent ≡ lent
unfolding write_list
write_left r lent n = simp (ne_eqb (write_refusal r (length lent)) 0 (λ z. n (write_number_lem r (length lent) ∙ z)))

-- what is not refused is written, and accepted records lead to it
pub write_done : (r : Round) (lent : List ℕ) → Decides r (is_held r) → number_of (write_answer r (length lent)) ≡ 0 → (write_list r lent ≡ file_of r) × Led r
unfolding write_list write_refusal
write_done r lent d z =
    let e : write_refusal r (length lent) ≡ 0 = sym (write_number_lem r (length lent)) ∙ z in
    (simp e, d.led (passed (is_held r) _ _ e).0)
