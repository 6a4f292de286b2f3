-- Files that are joined are cut where they were joined.
-- Assumes nothing.
use Prim.Native.Nat.{ℕ, zero, suc, ◌%◌, ◌<◌}
use mathlib.Core.Path.{◌≡◌, refl, ap, sym, ◌∙◌}
use mathlib.Core.Bool.{Bool, true, false}
use mathlib.Core.List.{List, [], ◌∷◌, ◌++◌, append_assoc, append-nil}
use native.Mathlib.Omega.{arith}
use lib.Dec.{leb, ltb}
use lib.ListN.{length, get_or, take, drop}
use lib.Seq.{get_or-take}
use borrow.Author.Tests.{leb-true, leb-false}
use Rattle.std.specs.Prelude.{if◌then◌else◌}
use Rattle.counting.proofs.Tests.{clash}
use Rattle.counting.proofs.Lists.{every_of_left, every_of_right}
use Rattle.records.specs.Bytes.{are_bytes}
use Rattle.reading.specs.File.{file_records}
use Rattle.reading.specs.Joined.{joined}
use Rattle.reading.proofs.Records.{records_cons, records_end, records_append, joined_records}
use Rattle.cutting.specs.Rounds.{starts_round, rounds_from, rounds_of, shift_rounds, round_count}
use Rattle.apart.specs.Apart.{OneRound, Rounds}

-- ---- two shifts

-- behind the round that is open
from_append : (l : List ℕ) (xs : List (List ℕ)) (b : List ℕ) (bs : List (List ℕ)) → starts_round b ≡ true
    → rounds_from l (xs ++ (b ∷ bs)) ≡ rounds_from l xs ++ rounds_from b bs
unfolding rounds_from
from_append l [] b bs s = simp s
from_append l (x ∷ xs) b bs s = go (starts_round x) (from_append x xs b bs s) (from_append (l ++ x) xs b bs s)
  where
    go : (t : Bool) → rounds_from x (xs ++ (b ∷ bs)) ≡ rounds_from x xs ++ rounds_from b bs → rounds_from (l ++ x) (xs ++ (b ∷ bs)) ≡ rounds_from (l ++ x) xs ++ rounds_from b bs
        → (if t then l ∷ rounds_from x (xs ++ (b ∷ bs)) else rounds_from (l ++ x) (xs ++ (b ∷ bs))) ≡ (if t then l ∷ rounds_from x xs else rounds_from (l ++ x) xs) ++ rounds_from b bs
    go true here more = ap (λ (rs : List (List ℕ)). l ∷ rs) here
    go false here more = more

of_append : (xs : List (List ℕ)) (b : List ℕ) (bs : List (List ℕ)) → starts_round b ≡ true → rounds_of (xs ++ (b ∷ bs)) ≡ rounds_of xs ++ rounds_from b bs
unfolding rounds_of
of_append [] b bs s = refl
of_append (x ∷ xs) b bs s = from_append x xs b bs s

pub joined_rounds : (l m : List ℕ) → length l % 16 ≡ 0 → starts_round m ≡ true → shift_rounds (l ++ m) ≡ shift_rounds l ++ shift_rounds m
unfolding shift_rounds rounds_of
joined_rounds l m even s = rw (records_append l m even) (go (leb 16 (length m)) refl)
  where
    go : (t : Bool) → leb 16 (length m) ≡ t → rounds_of (file_records l ++ file_records m) ≡ rounds_of (file_records l) ++ rounds_of (file_records m)
    go true q =
        let first : starts_round (take 16 m) ≡ true = ap (λ (x : ℕ). starts_round (x ∷ [])) (get_or-take 16 m 0 0 (omega arith)) ∙ s in
        rw (records_cons m (leb-true 16 (length m) q)) (of_append (file_records l) (take 16 m) (file_records (drop 16 m)) first)
    go false q =
        rw (records_end m (leb-false 16 (length m) q)) (ap rounds_of (append-nil (file_records l)) ∙ sym (append-nil (rounds_of (file_records l))))

-- ---- any number of files

starts-append : (f x : List ℕ) → starts_round f ≡ true → starts_round (f ++ x) ≡ true
starts-append [] x s = clash false s refl
starts-append (a ∷ f) x s = s

-- The rounds of a shift are the files that were joined. The first of them may begin with a record of any kind.
pub rounds_joined : (f : List ℕ) (fs : List (List ℕ)) → OneRound f → Rounds fs → shift_rounds (joined (f ∷ fs)) ≡ f ∷ fs
unfolding joined Rounds
rounds_joined f [] o r = ap shift_rounds (append-nil f) ∙ o.1
rounds_joined f (g ∷ gs) o r =
    joined_rounds f (g ++ joined gs) o.0 (starts-append g (joined gs) r.1) ∙ rw (o.1, rounds_joined g gs r.0 r.2)

-- ---- nothing is lost

joined_from : (l : List ℕ) (bs : List (List ℕ)) → joined (rounds_from l bs) ≡ l ++ joined bs
unfolding rounds_from joined
joined_from l [] = refl
joined_from l (b ∷ bs) = go (starts_round b) (joined_from b bs) (joined_from (l ++ b) bs)
  where
    go : (t : Bool) → joined (rounds_from b bs) ≡ b ++ joined bs → joined (rounds_from (l ++ b) bs) ≡ (l ++ b) ++ joined bs
        → joined (if t then l ∷ rounds_from b bs else rounds_from (l ++ b) bs) ≡ l ++ (b ++ joined bs)
    go true here more = ap (λ (x : List ℕ). l ++ x) here
    go false here more = more ∙ append_assoc l b (joined bs)

joined_of : (bs : List (List ℕ)) → joined (rounds_of bs) ≡ joined bs
unfolding rounds_of joined
joined_of [] = refl
joined_of (b ∷ bs) = joined_from b bs

-- the rounds, joined again, are the file
pub nothing_lost : (l : List ℕ) → length l % 16 ≡ 0 → joined (shift_rounds l) ≡ l
unfolding shift_rounds
nothing_lost l e = joined_of (file_records l) ∙ joined_records l e

-- the rounds of bytes are bytes
joined_bytes : (fs : List (List ℕ)) → are_bytes (joined fs) ≡ true → (k : ℕ) → k < length fs → are_bytes (get_or fs k []) ≡ true
unfolding joined are_bytes
joined_bytes [] e k h = absurd (omega arith)
joined_bytes (f ∷ fs) e zero h = every_of_left (λ x. ltb x 256) f (joined fs) e
joined_bytes (f ∷ fs) e (suc k) h = joined_bytes fs (every_of_right (λ x. ltb x 256) f (joined fs) e) k (omega arith)

pub round_bytes : (l : List ℕ) → length l % 16 ≡ 0 → are_bytes l ≡ true → (k : ℕ) → k < round_count l → are_bytes (get_or (shift_rounds l) k []) ≡ true
round_bytes l even e = joined_bytes (shift_rounds l) (rw (nothing_lost l even) e)
