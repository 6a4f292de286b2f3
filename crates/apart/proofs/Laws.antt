-- Each round of a shift is settled apart from the others: over any list that takes m numbers a round.
-- Assumes nothing.
use Prim.Native.Nat.{ℕ, zero, suc, ◌+◌, ◌*◌, ◌%◌, ◌<◌}
use mathlib.Core.Path.{◌≡◌, ap, sym, ◌∙◌}
use mathlib.Core.Bool.{Bool, true, false}
use mathlib.Core.List.{List, [], ◌∷◌, ◌++◌, map, append-nil, map-append}
use native.Mathlib.Nat.{mul-zero}
use native.Mathlib.Numerals.{add-one}
use native.Mathlib.Omega.{arith}
use lib.Dec.{eqb}
use lib.ListN.{length, get_or, take, drop, replicate, length-append, length-replicate}
use lib.Seq.{take_at, drop-append-add, get_or-take, get_or-drop}
use borrow.Author.Tests.{eq-eqb, ne_eqb}
use Rattle.std.specs.Prelude.{Ok}
use Rattle.counting.proofs.Gathers.{one_more}
use Rattle.counting.proofs.Tests.{both}
use Rattle.records.specs.Bytes.{are_bytes}
use Rattle.reading.specs.File.{read_file}
use Rattle.reading.specs.Joined.{joined}
use Rattle.reading.proofs.Records.{joined-append}
use Rattle.results.specs.Results.{results_long}
use Rattle.settlement.specs.Settle.{read_refusal, read_list, file_answer, file_list, file_number}
use Rattle.settlement.proofs.Answers.{file_number_lem}
use Rattle.cutting.specs.Rounds.{starts_round, shift_rounds, round_count}
use Rattle.cutting.proofs.Cuts.{rounds_none}
use Rattle.shifts.specs.Shift.{round_amounts, round_answer, answer_long, in_turn, lists_fit, shift_refusal, shift_answer, shift_list, shift_number}
use Rattle.shifts.proofs.Ones.{amounts_long, answer-long}
use Rattle.shifts.proofs.Answers.{both_right, settled_list, settled_whole, settled_fit}
use Rattle.apart.specs.Apart.{OneRound}
use Rattle.apart.proofs.Joins.{joined_rounds, round_bytes}

-- ---- what a round gives

-- A refused round's amounts are zeros,
pub refused_zeros : (l : List ℕ) → (file_number (file_answer l results_long) ≡ 0 → ⊥) → round_amounts l ≡ replicate results_long 0
unfolding round_amounts read_list
refused_zeros l n =
    let refused : eqb (read_refusal (read_file l) results_long) 0 ≡ false = ne_eqb _ _ (λ e. n (file_number_lem (read_file l) results_long ∙ e)) in
    simp (length-replicate {A = ℕ} results_long 0, refused)

-- and a settled one's are those that its own call writes into any list of 35.
pub settled_own : (l lent : List ℕ) → file_number (file_answer l results_long) ≡ 0 → length lent ≡ results_long → round_amounts l ≡ file_list l lent
unfolding round_amounts read_list
settled_own l lent z long =
    let none : read_refusal (read_file l) results_long ≡ 0 = sym (file_number_lem (read_file l) results_long) ∙ z in
    simp (length-replicate {A = ℕ} results_long 0, long, none)

-- ---- each in its own part

module _ (m : ℕ) (give : List ℕ → List ℕ) (wide : (f : List ℕ) → length (give f) ≡ m) where
  parts : (fs : List (List ℕ)) (k : ℕ) → k < length fs → take m (drop (m * k) (joined (map give fs))) ≡ give (get_or fs k [])
  unfolding joined
  parts [] k h = absurd (omega arith)
  parts (f ∷ fs) zero h = rw (mul-zero m) (take_at (give f) (joined (map give fs)) m (wide f))
  parts (f ∷ fs) (suc k) h =
      let e : m * suc k ≡ length (give f) + m * k = rw (wide f, ← (add-one k)) (omega (arith, one_more m k)) in
      rw (e, drop-append-add (give f) (joined (map give fs)) (m * k)) (parts fs k (omega arith))

  -- Round k's part of a list is what its own call gives,
  pub own_part : (l : List ℕ) (k : ℕ) → k < round_count l → take m (drop (m * k) (in_turn give l)) ≡ give (get_or (shift_rounds l) k [])
  own_part l = parts (shift_rounds l)

  -- and so the same in every shift that has this round there: a refused round spoils no other.
  pub spoils_none : (l l' : List ℕ) (k : ℕ) → k < round_count l → k < round_count l' → get_or (shift_rounds l) k [] ≡ get_or (shift_rounds l') k []
      → take m (drop (m * k) (in_turn give l)) ≡ take m (drop (m * k) (in_turn give l'))
  spoils_none l l' k h h' e = own_part l k h ∙ ap give e ∙ sym (own_part l' k h')

-- So the lists that a settled shift fills: round k has in each what its own call gives.
pub own_calls : (l amounts answers : List ℕ) (fit : Bool) → shift_number (shift_answer l fit) ≡ 0 → (k : ℕ) → k < round_count l
    → (take results_long (drop (results_long * k) (shift_list round_amounts l fit amounts)) ≡ round_amounts (get_or (shift_rounds l) k []))
    × (take answer_long (drop (answer_long * k) (shift_list round_answer l fit answers)) ≡ round_answer (get_or (shift_rounds l) k []))
own_calls l amounts answers fit z k h = (
  rw (settled_list l fit z round_amounts amounts) (own_part results_long round_amounts amounts_long l k h),
  rw (settled_list l fit z round_answer answers) (own_part answer_long round_answer answer-long l k h),
)

-- A round of a settled shift whose number among the answers is 0: it is bytes, its own call answers 0, and what that writes into a list of zeros is its part of the amounts.
pub settled_round : (l : List ℕ) (fit : Bool) → shift_number (shift_answer l fit) ≡ 0 → (amounts answers : List ℕ) → are_bytes l ≡ true
    → (k : ℕ) → k < round_count l → get_or (shift_list round_answer l fit answers) (answer_long * k) 0 ≡ 0 →
    let f = get_or (shift_rounds l) k [] in
    (are_bytes f ≡ true)
    × (file_number (file_answer f (length (replicate {A = ℕ} results_long 0))) ≡ 0)
    × (take results_long (drop (results_long * k) (shift_list round_amounts l fit amounts)) ≡ file_list f (replicate results_long 0))
unfolding round_amounts round_answer
settled_round l fit z amounts answers bytes k h none =
    let f = get_or (shift_rounds l) k [] in
    let told = shift_list round_answer l fit answers in
    let own = own_calls l amounts answers fit z k h in
    let here : get_or (take answer_long (drop (answer_long * k) told)) 0 0 ≡ get_or told (answer_long * k) 0 =
    get_or-take answer_long (drop (answer_long * k) told) 0 0 (omega arith) ∙ get_or-drop (answer_long * k) told 0 0 ∙ ap (λ (i : ℕ). get_or told i 0) (omega arith) in
    let number : file_number (file_answer f results_long) ≡ 0 = ap (λ (x : List ℕ). get_or x 0 0) (sym own.1) ∙ here ∙ none in
    (round_bytes l (settled_whole l fit z) bytes k h, rw (length-replicate {A = ℕ} results_long 0) number, own.0)

-- ---- joined

-- Two shifts joined, the second beginning with a table record, give the joined lists.
pub joined_lists : (give : List ℕ → List ℕ) (l m : List ℕ) → length l % 16 ≡ 0 → starts_round m ≡ true → in_turn give (l ++ m) ≡ in_turn give l ++ in_turn give m
joined_lists give l m even s =
    ap (λ (rs : List (List ℕ)). joined (map give rs)) (joined_rounds l m even s)
    ∙ ap joined (map-append give (shift_rounds l) (shift_rounds m))
    ∙ joined-append (map give (shift_rounds l)) (map give (shift_rounds m))

-- The same of the calls: where each of two shifts is settled, so are both joined, with their lists joined.
pub joined_calls : (l m xs ys xs' ys' : List ℕ) → starts_round m ≡ true → shift_number (shift_answer l (lists_fit l xs ys)) ≡ 0 → shift_number (shift_answer m (lists_fit m xs' ys')) ≡ 0 →
    let fit = lists_fit (l ++ m) (xs ++ xs') (ys ++ ys') in
    (shift_answer (l ++ m) fit ≡ Ok (round_count l + round_count m))
    × (shift_list round_amounts (l ++ m) fit (xs ++ xs') ≡ shift_list round_amounts l (lists_fit l xs ys) xs ++ shift_list round_amounts m (lists_fit m xs' ys') xs')
    × (shift_list round_answer (l ++ m) fit (ys ++ ys') ≡ shift_list round_answer l (lists_fit l xs ys) ys ++ shift_list round_answer m (lists_fit m xs' ys') ys')
unfolding shift_answer shift_refusal
joined_calls l m xs ys xs' ys' s p q =
    let a : length l % 16 ≡ 0 = settled_whole l (lists_fit l xs ys) p in
    let b : length m % 16 ≡ 0 = settled_whole m (lists_fit m xs' ys') q in
    let even : length (l ++ m) % 16 ≡ 0 = rw length-append (omega arith) in
    let count : round_count (l ++ m) ≡ round_count l + round_count m = ap length (joined_rounds l m a s) ∙ length-append (shift_rounds l) (shift_rounds m) in
    let f = both_right l xs ys (settled_fit l _ p) in
    let g = both_right m xs' ys' (settled_fit m _ q) in
    let first : length (xs ++ xs') ≡ results_long * round_count (l ++ m) = rw (length-append, count) (omega (arith, f.0, g.0)) in
    let second : length (ys ++ ys') ≡ answer_long * round_count (l ++ m) = rw (length-append, count) (omega (arith, f.1, g.1)) in
    let right : lists_fit (l ++ m) (xs ++ xs') (ys ++ ys') ≡ true =
    both (eqb (length (xs ++ xs')) (results_long * round_count (l ++ m))) (eqb (length (ys ++ ys')) (answer_long * round_count (l ++ m))) (eq-eqb _ _ first) (eq-eqb _ _ second) in
    let z : shift_number (shift_answer (l ++ m) (lists_fit (l ++ m) (xs ++ xs') (ys ++ ys'))) ≡ 0 = simp (even, right) in (
      simp (even, right) (ap Ok count),
      settled_list (l ++ m) _ z round_amounts _ ∙ joined_lists round_amounts l m a s ∙ rw (settled_list l _ p round_amounts xs, settled_list m _ q round_amounts xs'),
      settled_list (l ++ m) _ z round_answer _ ∙ joined_lists round_answer l m a s ∙ rw (settled_list l _ p round_answer ys, settled_list m _ q round_answer ys'),
    )

one_list : (give : List ℕ → List ℕ) (f : List ℕ) → shift_rounds f ≡ f ∷ [] → in_turn give f ≡ give f
unfolding joined
one_list give f e = ap (λ (rs : List (List ℕ)). joined (map give rs)) e ∙ append-nil (give f)

-- A round in the middle is all that its own part depends on, and the other parts don't depend on it.
pub middle_round : (give : List ℕ → List ℕ) (l f m : List ℕ) → length l % 16 ≡ 0 → OneRound f → starts_round (f ++ m) ≡ true → starts_round m ≡ true
    → in_turn give (l ++ (f ++ m)) ≡ in_turn give l ++ (give f ++ in_turn give m)
middle_round give l f m even o s t =
    joined_lists give l (f ++ m) even s
    ∙ ap (λ (x : List ℕ). in_turn give l ++ x) (joined_lists give f m o.0 t ∙ ap (λ (x : List ℕ). x ++ in_turn give m) (one_list give f o.1))

-- ---- none, and one

-- An empty file has no rounds, and is accepted with two empty lists.
pub empty_shift : (shift_rounds [] ≡ []) × (shift_answer [] (lists_fit [] [] []) ≡ Ok 0)
unfolding shift_answer shift_refusal
empty_shift = let none = rounds_none [] (omega arith) in (none, rw none)

-- A shift of one round is that file's own call.
pub one_call : (l amounts answers : List ℕ) → OneRound l → length amounts ≡ results_long → length answers ≡ 2
    → (shift_answer l (lists_fit l amounts answers) ≡ Ok 1)
    × (shift_list round_amounts l (lists_fit l amounts answers) amounts ≡ round_amounts l)
    × (shift_list round_answer l (lists_fit l amounts answers) answers ≡ round_answer l)
unfolding shift_answer shift_refusal shift_list joined
one_call l amounts answers o a b =
    (simp (o.0, o.1, a, b), simp (o.0, o.1, a, b) (append-nil (round_amounts l)), simp (o.0, o.1, a, b) (append-nil (round_answer l)))
