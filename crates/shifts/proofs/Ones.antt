-- What one round gives: as many numbers whatever the round is, and what its own call answers.
-- Assumes nothing.
use Prim.Native.Nat.{ℕ}
use mathlib.Core.Path.{◌≡◌, refl, ap, ◌∙◌}
use mathlib.Core.Bool.{Bool, true, false, not}
use mathlib.Core.List.{List, [], ◌∷◌}
use lib.Dec.{eqb}
use lib.ListN.{length, replicate, length-replicate}
use Rattle.std.specs.Prelude.{Result, if◌then◌else◌}
use Rattle.reading.specs.File.{read_file}
use Rattle.results.specs.Results.{results_long, results}
use Rattle.results.proofs.Places.{results-length}
use Rattle.settlement.specs.declared.Paid.{Paid}
use Rattle.settlement.specs.declared.Faulty.{Faulty}
use Rattle.settlement.specs.Settle.{read_refusal, read_list, file_answer, file_list, file_number, file_place}
use Rattle.shifts.specs.Shift.{round_amounts, round_answer, answer_long}

-- a list of the right length is as long after the call
either : (t : Bool) (a b : List ℕ) (n : ℕ) → length a ≡ n → length b ≡ n → length (if t then a else b) ≡ n
either true a b n p q = p
either false a b n p q = q

file_list_long : (l lent : List ℕ) → length lent ≡ results_long → length (file_list l lent) ≡ results_long
unfolding read_list
file_list_long l lent e =
    either (not (eqb (read_refusal (read_file l) (length lent)) 0)) lent (results (read_file l).round) results_long e (results-length (read_file l).round)

pub amounts_long : (l : List ℕ) → length (round_amounts l) ≡ results_long
unfolding round_amounts
amounts_long l = file_list_long l (replicate results_long 0) (length-replicate {A = ℕ} results_long 0)

pub answer-long : (l : List ℕ) → length (round_answer l) ≡ answer_long
unfolding round_answer
answer-long l = refl

-- the call on a list of zeros
pub one_settled : (l lent zeros new : List ℕ) (s : Result Paid Faulty) → length lent ≡ results_long → zeros ≡ replicate (length lent) 0
    → s ≡ file_answer l (length zeros) → new ≡ file_list l zeros
    → (new ≡ round_amounts l) × (file_number s ∷ file_place s ∷ [] ≡ round_answer l)
unfolding round_amounts round_answer
one_settled l lent zeros new s e z a b =
    let cleared : zeros ≡ replicate results_long 0 = z ∙ ap (λ (n : ℕ). replicate n 0) e in
    let long : length zeros ≡ results_long = ap length cleared ∙ length-replicate {A = ℕ} results_long 0 in
    let told : s ≡ file_answer l results_long = a ∙ ap (file_answer l) long in
    (b ∙ ap (file_list l) cleared, ap (λ (x : Result Paid Faulty). file_number x ∷ file_place x ∷ []) told)
