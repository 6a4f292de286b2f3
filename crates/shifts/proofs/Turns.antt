-- One turn of settling a shift: the next round, into its part of each list.
-- Assumes nothing.
use Prim.Native.Nat.{ℕ, ◌+◌, ◌-◌, ◌*◌, ◌≤◌, ◌<◌}
use mathlib.Core.Path.{◌≡◌, refl, ap}
use mathlib.Core.Bool.{Bool, true, false}
use mathlib.Core.List.{List, [], ◌∷◌, ◌++◌}
use native.Mathlib.Omega.{arith}
use lib.Dec.{leb}
use lib.ListN.{length, take, drop}
use borrow.Author.Tests.{leb-true, leb-false}
use Rattle.results.specs.Results.{results_long}
use Rattle.cutting.specs.Rounds.{shift_rounds, round_count, first_round}
use Rattle.cutting.proofs.Cuts.{Ends, rounds_none, first-cut, count_more}
use Rattle.shifts.specs.Shift.{round_amounts, round_answer, answer_long, in_turn}
use Rattle.shifts.proofs.Rows.{Row, row_none, row_room, row_back, row_all}
use Rattle.shifts.proofs.Ones.{amounts_long, answer-long}

-- a file that has a round has a record
has_record : (l : List ℕ) → 0 < round_count l → 16 ≤ length l
has_record l h = go (leb 16 (length l)) refl
  where
    go : (t : Bool) → leb 16 (length l) ≡ t → 16 ≤ length l
    go true e = leb-true 16 (length l) e
    go false e = absurd (omega (arith, h, ap length (rounds_none l (leb-false 16 (length l) e))))

empty : {A : Type 0} (xs : List A) → length xs ≡ 0 → xs ≡ []
empty [] e = refl
empty (x ∷ xs) e = absurd (omega arith)

module _ (l : List ℕ) where
  -- k rounds are settled, and the others are those of the rest
  abbrev pub Settling : List ℕ → List ℕ → List ℕ → ℕ → Type 0
  Settling amounts answers rest k =
      (k + round_count rest ≡ round_count l) × Row results_long round_amounts l amounts rest k × Row answer_long round_answer l answers rest k

  pub settling_none : (amounts answers : List ℕ) → length amounts ≡ results_long * round_count l → length answers ≡ answer_long * round_count l
      → Settling amounts answers l 0
  settling_none amounts answers a b =
      (omega arith, row_none results_long round_amounts l amounts a, row_none answer_long round_answer l answers b)

  module _ (amounts answers rest : List ℕ) (k : ℕ) (v : Settling amounts answers rest k) where
    -- the next is n bytes long, and there is room for it in both lists
    abbrev pub Next : ℕ → Type 0
    Next n = (n ≤ length rest) × (results_long * k + results_long ≤ length amounts) × (answer_long * k + answer_long ≤ length answers) × Ends rest n

    pub settling_next : (n : ℕ) → n ≡ length (first_round rest) → k < round_count l → Next n
    settling_next n e h =
        let c = first-cut rest n e (has_record rest (omega (arith, v.0))) in (
          c.1,
          row_room results_long round_amounts l amounts rest k n v.1 v.0 c.2,
          row_room answer_long round_answer l answers rest k n v.2 v.0 c.2,
          c.2,
        )

    pub settling_more : (n : ℕ) (xs ys after : List ℕ) → Next n → xs ≡ round_amounts (take n rest) → ys ≡ round_answer (take n rest) → after ≡ drop n rest
        → Settling (take (results_long * k) amounts ++ (xs ++ drop (results_long * k + results_long - results_long * k) (drop (results_long * k) amounts)))
        (take (answer_long * k) answers ++ (ys ++ drop (answer_long * k + answer_long - answer_long * k) (drop (answer_long * k) answers))) after (k + 1)
    settling_more n xs ys after r a b e =
        rw e (
          count_more (round_count l) k rest v.0 n r.3,
          row_back results_long round_amounts l amounts rest xs k n v.1 r.3 a (amounts_long _) r.1,
          row_back answer_long round_answer l answers rest ys k n v.2 r.3 b (answer-long _) r.2,
        )

    pub settling_all : round_count l ≤ k → (amounts ≡ in_turn round_amounts l) × (answers ≡ in_turn round_answer l)
    settling_all h =
        let none = empty (shift_rounds rest) (omega (arith, v.0)) in
        let all : k ≡ round_count l = omega (arith, v.0) in
        (row_all results_long round_amounts l amounts rest k v.1 none all, row_all answer_long round_answer l answers rest k v.2 none all)
