-- A file of joined rounds, cut from the front.
-- Assumes nothing.
use Prim.Native.Nat.{ℕ, suc, ◌+◌, ◌-◌, ◌*◌, ◌≤◌, ◌<◌}
use mathlib.Core.Path.{◌≡◌, refl, ap, sym, ◌∙◌}
use mathlib.Core.Bool.{Bool, true, false, not}
use mathlib.Core.List.{List, [], ◌∷◌, ◌++◌, append_assoc, append-nil}
use native.Mathlib.Omega.{arith}
use lib.ListN.{length, take, drop, length-drop}
use lib.Seq.{take-add, drop-drop, length-take-le}
use Rattle.std.specs.Prelude.{if◌then◌else◌, cond}
use Rattle.std.specs.List.{prefix_len, filter}
use Rattle.std.proofs.lemmas.List.Folds.{length-prefix_len}
use Rattle.std.proofs.lemmas.List.Sums.{prefix_len-le-length}
use Rattle.reading.specs.File.{file_records}
use Rattle.reading.specs.Joined.{joined}
use Rattle.reading.proofs.Records.{records_cons, records_app, records_end, records_count, records_first, records_rest, rest_of}
use Rattle.cutting.specs.Rounds.{starts_round, rounds_from, rounds_of, shift_rounds, round_count, first_round}

pub rounds_none : (l : List ℕ) → length l < 16 → shift_rounds l ≡ []
unfolding shift_rounds rounds_of
rounds_none l h = rw (records_end l h)

pub none_first : (l : List ℕ) → length l < 16 → 0 ≡ length (first_round l)
unfolding first_round
none_first l h = rw (rounds_none l h)

-- ---- where the first round ends

-- how many records before the next round's
abbrev pub later : List (List ℕ) → ℕ
later = prefix_len (λ b. not (starts_round b))

round_first : (l : List ℕ) (bs : List (List ℕ)) → rounds_from l bs ≡ (l ++ joined (take (later bs) bs)) ∷ rounds_of (drop (later bs) bs)
unfolding rounds_from rounds_of joined
round_first l [] = rw append-nil
round_first l (b ∷ bs) = go (starts_round b) (round_first (l ++ b) bs)
  where
    go : (t : Bool) → rounds_from (l ++ b) bs ≡ ((l ++ b) ++ joined (take (later bs) bs)) ∷ rounds_of (drop (later bs) bs)
        → (if t then l ∷ rounds_from b bs else rounds_from (l ++ b) bs)
        ≡ (l ++ joined (take (cond (not t) (1 + later bs) 0) (b ∷ bs))) ∷ rounds_of (drop (cond (not t) (1 + later bs) 0) (b ∷ bs))
    go true e = rw append-nil
    go false e = let one : 1 + later bs ≡ suc (later bs) = omega arith in e ∙ rw (one, append_assoc l b (joined (take (later bs) bs)))

module _ (l : List ℕ) (n : ℕ) where
  -- it ends at byte n, and the other rounds are those of the rest
  abbrev pub Ends : Type 0
  Ends = shift_rounds l ≡ take n l ∷ shift_rounds (drop n l)

  abbrev pub Cut : Type 0
  Cut = (16 ≤ n) × (n ≤ length l) × Ends

  ends_first : n ≤ length l → Ends → n ≡ length (first_round l)
  unfolding first_round
  ends_first h e = rw e (sym (length-take-le n l h))

module _ (l : List ℕ) (h : 16 ≤ length l) where
  -- record 0 and those before the next round's
  abbrev pub first_long : ℕ
  first_long = 16 + 16 * later (file_records (drop 16 l))

  within : 16 * later (file_records (drop 16 l)) ≤ length (drop 16 l)
  within =
      omega (arith, prefix_len-le-length (λ b. not (starts_round b)) (file_records (drop 16 l)), records_count (drop 16 l))

  cut_first : Cut l first_long
  unfolding shift_rounds rounds_of
  cut_first =
      let n = later (file_records (drop 16 l)) in
      let first = records_first n (drop 16 l) within in
      let rest = records_rest n (drop 16 l) within ∙ ap file_records (drop-drop (16 * n) 16 l) in (
        omega arith,
        omega (arith, within, length-drop 16 l),
        rw (records_cons l h) (round_first (take 16 l) (file_records (drop 16 l)) ∙ rw (first, ← (take-add 16 (16 * n) l), rest)),
      )

  pub first-long : first_long ≡ length (first_round l)
  first-long = ends_first l first_long cut_first.1 cut_first.2

  -- where n is how many of the later records are taken while they start no round
  pub later_count : (n : ℕ) → n ≡ length (take (later (drop 1 (file_records l))) (drop 1 (file_records l))) → 16 + 16 * n ≡ length (first_round l)
  later_count n e =
      let rest : drop 1 (file_records l) ≡ file_records (drop 16 l) = ap (drop 1) (records_cons l h) in
      ap (λ k. 16 + 16 * k) (e ∙ length-prefix_len (λ b. not (starts_round b)) (drop 1 (file_records l)) ∙ ap later rest) ∙ first-long

pub first-cut : (l : List ℕ) (n : ℕ) → n ≡ length (first_round l) → 16 ≤ length l → Cut l n
first-cut l n e h = rw (e, ← (first-long l h)) (cut_first l h)

-- the same of a part that goes on to the end of a file
pub rest_cut : (l : List ℕ) (s n : ℕ) → n ≡ length (first_round (take (length l - s) (drop s l))) → 16 ≤ length l - s → Cut (drop s l) n
rest_cut l s n e h = first-cut (drop s l) n (e ∙ ap (λ (x : List ℕ). length (first_round x)) (rest_of l s)) (rw length-drop h)

-- ---- how many rounds there are

rounds_count : (l : List ℕ) (bs : List (List ℕ)) → length (rounds_from l bs) ≡ 1 + length (filter starts_round bs)
unfolding rounds_from
rounds_count l [] = refl
rounds_count l (b ∷ bs) = go (starts_round b) (rounds_count b bs) (rounds_count (l ++ b) bs)
  where
    go : (t : Bool) → length (rounds_from b bs) ≡ 1 + length (filter starts_round bs) → length (rounds_from (l ++ b) bs) ≡ 1 + length (filter starts_round bs)
        → length (if t then l ∷ rounds_from b bs else rounds_from (l ++ b) bs) ≡ 1 + length (cond t (b ∷ filter starts_round bs) (filter starts_round bs))
    go true e f = omega (arith, e)
    go false e f = f

pub first_counts : (b l : List ℕ) → length b ≡ 16 → 1 + length (filter starts_round (file_records l)) ≡ round_count (b ++ l)
unfolding shift_rounds rounds_of
first_counts b l long = sym (rw (records_app b l long) (rounds_count b (file_records l)))

-- ---- how many are still to come

module _ (n c : ℕ) (rest : List ℕ) (s : c + round_count rest ≡ n) where
  pub count_more : (m : ℕ) → Ends rest m → c + 1 + round_count (drop m rest) ≡ n
  count_more m e = omega (arith, ap length e)

  pub count_all : length rest < 16 → c ≡ n
  count_all h = omega (arith, ap length (rounds_none rest h))
