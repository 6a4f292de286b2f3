-- Cutting a file into records, and putting records together.
-- Assumes nothing.
use Prim.Native.Nat.{ℕ, zero, suc, ◌+◌, ◌-◌, ◌*◌, ◌/◌, ◌%◌, ◌≤◌, ◌<◌}
use mathlib.Core.Path.{◌≡◌, refl, ap, sym, ◌∙◌}
use mathlib.Core.Bool.{true}
use mathlib.Core.List.{List, [], ◌∷◌, ◌++◌, append_assoc, append-nil}
use native.Mathlib.Omega.{arith}
use lib.Dec.{ltb}
use lib.ListN.{length, take, drop, length-append, length-drop, take-append-drop}
use lib.Seq.{take_all, take_at, drop_at, take-add, drop-drop, length-take-le}
use Rattle.std.specs.declared.slice.ChunksExact.{ChunksExact}
use Rattle.std.specs.Slice.Iter.{chunks_exact_rest, chunks_exact_size, chunks_exact_steps}
use Rattle.std.proofs.lemmas.Iterator.{YieldsList}
use Rattle.std.proofs.lemmas.Iterator.Splits.{YieldsList-from_shown_while}
use Rattle.counting.specs.Count.{every_of}
use Rattle.counting.proofs.Lists.{every_of_left, every_of_both, every_of-drop}
use Rattle.records.specs.Bytes.{are_bytes}
use Rattle.reading.specs.File.{cut, file_records}
use Rattle.reading.specs.Joined.{joined, Whole}

-- ---- from the front

pub records_cons : (l : List ℕ) → 16 ≤ length l → file_records l ≡ take 16 l ∷ file_records (drop 16 l)
unfolding file_records cut
records_cons l h = let e : length l / 16 ≡ suc (length (drop 16 l) / 16) = rw length-drop (omega arith) in rw e

pub records_end : (l : List ℕ) → length l < 16 → file_records l ≡ []
unfolding file_records cut
records_end l h = let e : length l / 16 ≡ 0 = omega arith in rw e

cut-count : (n : ℕ) (l : List ℕ) → length (cut n l) ≡ n
unfolding cut
cut-count zero l = refl
cut-count (suc n) l = ap suc (cut-count n (drop 16 l))

pub records_count : (l : List ℕ) → length (file_records l) ≡ length l / 16
unfolding file_records
records_count l = cut-count (length l / 16) l

-- a part with no end is what is left
pub rest_of : (l : List ℕ) (n : ℕ) → take (length l - n) (drop n l) ≡ drop n l
rest_of l n = take_all (length l - n) (drop n l) (rw length-drop (omega arith))

-- ---- put together

pub records_app : (b l : List ℕ) → length b ≡ 16 → file_records (b ++ l) ≡ b ∷ file_records l
records_app b l e =
    let h : 16 ≤ length (b ++ l) = rw length-append (omega arith) in records_cons (b ++ l) h ∙ rw (take_at b l 16 e, drop_at b l 16 e)

pub records_joined : (bs : List (List ℕ)) → Whole bs → file_records (joined bs) ≡ bs
unfolding joined Whole
records_joined [] w = records_end [] (omega arith)
records_joined (b ∷ bs) w = records_app b (joined bs) w.0 ∙ ap (λ (l : List (List ℕ)). b ∷ l) (records_joined bs w.1)

pub joined_length : (bs : List (List ℕ)) → Whole bs → length (joined bs) ≡ 16 * length bs
unfolding joined Whole
joined_length [] w = refl
joined_length (b ∷ bs) w = rw length-append (omega (arith, w.0, joined_length bs w.1))

pub joined-append : (xs ys : List (List ℕ)) → joined (xs ++ ys) ≡ joined xs ++ joined ys
unfolding joined
joined-append [] ys = refl
joined-append (x ∷ xs) ys = ap (λ (l : List ℕ). x ++ l) (joined-append xs ys) ∙ sym (append_assoc x (joined xs) (joined ys))

-- the first of bytes are bytes, and bytes are cut into records of bytes
pub first_bytes : (n : ℕ) (l : List ℕ) → are_bytes l ≡ true → are_bytes (take n l) ≡ true
unfolding are_bytes
first_bytes n l e = every_of_left (λ x. ltb x 256) (take n l) (drop n l) (rw (take-append-drop n l) e)

cut_bytes : (n : ℕ) (l : List ℕ) → are_bytes l ≡ true → are_bytes (joined (cut n l)) ≡ true
unfolding cut joined are_bytes every_of
cut_bytes zero l e = refl
cut_bytes (suc n) l e =
    let rest = cut_bytes n (drop 16 l) (every_of-drop (λ x. ltb x 256) 16 l e) in
    every_of_both (λ x. ltb x 256) (take 16 l) (joined (cut n (drop 16 l))) (first_bytes 16 l e) rest

pub records_bytes : (l : List ℕ) → are_bytes l ≡ true → are_bytes (joined (file_records l)) ≡ true
unfolding file_records
records_bytes l e = cut_bytes (length l / 16) l e

-- the first n records, and the rest
pub records_split : (n : ℕ) (l : List ℕ) → 16 * n ≤ length l → file_records l ≡ file_records (take (16 * n) l) ++ file_records (drop (16 * n) l)
records_split zero l h = rw (records_end [] (omega arith))
records_split (suc n) l h =
    let e : 16 * suc n ≡ 16 + 16 * n = omega arith in
    let k : 16 * n ≤ length (drop 16 l) = rw length-drop (omega arith) in
    let first = records_app (take 16 l) (take (16 * n) (drop 16 l)) (length-take-le 16 l (omega arith)) in
    records_cons l (omega arith)
    ∙ rw (e, take-add 16 (16 * n) l, ← (drop-drop (16 * n) 16 l), first) (ap (λ (m : List (List ℕ)). take 16 l ∷ m) (records_split n (drop 16 l) k))

-- a file behind whole records, and so a record
pub records_append : (l m : List ℕ) → length l % 16 ≡ 0 → file_records (l ++ m) ≡ file_records l ++ file_records m
records_append l m even =
    let n = length l / 16 in
    let whole : length l ≡ 16 * n = omega arith in
    records_split n (l ++ m) (omega (arith, length-append l m)) ∙ rw (take_at l m (16 * n) whole, drop_at l m (16 * n) whole)

pub records_behind : (l b : List ℕ) → length l % 16 ≡ 0 → length b ≡ 16 → file_records (l ++ b) ≡ file_records l ++ (b ∷ [])
records_behind l b even long =
    let one : file_records b ≡ b ∷ [] = rw (append-nil b, records_end [] (omega arith)) at (records_app b [] long) in
    records_append l b even ∙ rw one

-- ---- put together again

joined-cut : (n : ℕ) (l : List ℕ) → joined (cut n l) ≡ take (16 * n) l
unfolding cut joined
joined-cut zero l = refl
joined-cut (suc n) l =
    let e : 16 * suc n ≡ 16 + 16 * n = omega arith in
    ap (λ (x : List ℕ). take 16 l ++ x) (joined-cut n (drop 16 l)) ∙ rw (e, take-add 16 (16 * n) l)

pub joined_records : (l : List ℕ) → length l % 16 ≡ 0 → joined (file_records l) ≡ l
unfolding file_records
joined_records l e = joined-cut (length l / 16) l ∙ take_all (16 * (length l / 16)) l (omega arith)

cut_whole : (n : ℕ) (l : List ℕ) → 16 * n ≤ length l → Whole (cut n l)
unfolding cut Whole
cut_whole zero l h = tt
cut_whole (suc n) l h = (length-take-le 16 l (omega arith), cut_whole n (drop 16 l) (rw length-drop (omega arith)))

pub records_whole : (l : List ℕ) → Whole (file_records l)
unfolding file_records
records_whole l = cut_whole (length l / 16) l (omega arith)

-- ---- the records of a file, and the first n of them

first_of : (n : ℕ) (l : List ℕ) → 16 * n ≤ length l → length (file_records (take (16 * n) l)) ≡ n
first_of n l h = records_count (take (16 * n) l) ∙ rw (length-take-le (16 * n) l h) (omega arith)

pub records_first : (n : ℕ) (l : List ℕ) → 16 * n ≤ length l → joined (take n (file_records l)) ≡ take (16 * n) l
records_first n l h =
    rw (records_split n l h, take_at (file_records (take (16 * n) l)) (file_records (drop (16 * n) l)) n (first_of n l h))
    (joined_records (take (16 * n) l) (rw (length-take-le (16 * n) l h) (omega arith)))

pub records_rest : (n : ℕ) (l : List ℕ) → 16 * n ≤ length l → drop n (file_records l) ≡ file_records (drop (16 * n) l)
records_rest n l h = rw (records_split n l h) (drop_at (file_records (take (16 * n) l)) (file_records (drop (16 * n) l)) n (first_of n l h))

-- ---- cut by the library

pub YieldsList-from_records : {s : ChunksExact ℕ} (l : List ℕ) → chunks_exact_rest s ≡ l → chunks_exact_size s ≡ 16
    → YieldsList chunks_exact_steps (λ y. y.now) s (file_records l)
YieldsList-from_records {s} l e n =
    rw (sym e)
    (YieldsList-from_shown_while chunks_exact_steps (λ y. y.now) (λ t. file_records (chunks_exact_rest t)) (λ t. chunks_exact_size t ≡ 16)
    (λ t u p q. ap length (records_end (chunks_exact_rest t) (rw (← p) q.1.0)))
    (λ t x u p q. (q.0 ∙ p, rw q.1.0 (records_app x.now (chunks_exact_rest u) (q.1.1 ∙ p))))
    s n)
