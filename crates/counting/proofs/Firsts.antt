-- A list with only some of its numbers kept and zeros for the others; and the first n of them, one more or some more at a time.
-- Assumes nothing.
use Prim.Native.Nat.{ℕ, zero, suc, ◌+◌, ◌-◌, ◌<◌, ◌≤◌, min}
use mathlib.Core.Path.{◌≡◌, refl, sym, ap, ◌∙◌}
use mathlib.Core.Bool.{Bool, true, false}
use mathlib.Core.List.{List, [], ◌∷◌}
use native.Mathlib.Omega.{arith}
use native.Mathlib.Nat.{add-zero}
use lib.Dec.{eqb, ltb}
use lib.ListN.{get_or, set, length, length-set, replicate, length-replicate, take, drop, length-take, length-drop}
use lib.Seq.{sets, ext_get_or, get_or-set_same, get_or-set_other, set-get_or, drop-cons, get_or-take, get_or-drop}
use borrow.Author.Tests.{eqb-true, eqb-false, ltb-true, ltb-false, lt-ltb, le-ltb}
use Rattle.std.specs.Prelude.{if◌then◌else◌}
use Rattle.counting.specs.Count.{every_of}
use Rattle.counting.proofs.Lists.{every_of_at}

-- the numbers that the test keeps, by place (the first is k) and value
unfoldable pub kept : (ℕ → ℕ → Bool) → ℕ → List ℕ → List ℕ
kept f k [] = []
kept f k (x ∷ xs) = (if f k x then x else 0) ∷ kept f (suc k) xs

pub kept-length : (f : ℕ → ℕ → Bool) (k : ℕ) (l : List ℕ) → length (kept f k l) ≡ length l
unfolding kept
kept-length f k [] = refl
kept-length f k (x ∷ xs) = ap suc (kept-length f (suc k) xs)

nothing : (t : Bool) → ◌≡◌ {A = ℕ} 0 (if t then 0 else 0)
nothing true = refl
nothing false = refl

pub kept_at : (f : ℕ → ℕ → Bool) (k : ℕ) (l : List ℕ) (j : ℕ) → get_or (kept f k l) j 0 ≡ (if f (k + j) (get_or l j 0) then get_or l j 0 else 0)
unfolding kept
kept_at f k [] j = nothing (f (k + j) 0)
kept_at f k (x ∷ xs) zero = ap (λ (n : ℕ). if f n x then x else 0) (sym (add-zero k))
kept_at f k (x ∷ xs) (suc j) =
    let e : suc k + j ≡ k + suc j = omega arith in
    kept_at f (suc k) xs j ∙ ap (λ (n : ℕ). if f n (get_or xs j 0) then get_or xs j 0 else 0) e

pub zeros_at : (n k : ℕ) → ◌≡◌ {A = ℕ} (get_or (replicate n 0) k 0) 0
zeros_at zero k = refl
zeros_at (suc n) zero = refl
zeros_at (suc n) (suc k) = zeros_at n k

-- ---- the first n

unfoldable pub firsts : ℕ → List ℕ → List ℕ
firsts n l = kept (λ j x. ltb j n) 0 l

pub firsts_length : (n : ℕ) (l : List ℕ) → length (firsts n l) ≡ length l
unfolding firsts
firsts_length n l = kept-length (λ j x. ltb j n) 0 l

pub firsts_in : (n : ℕ) (l : List ℕ) (j : ℕ) → j < n → get_or (firsts n l) j 0 ≡ get_or l j 0
unfolding firsts
firsts_in n l j h = kept_at (λ j x. ltb j n) 0 l j ∙ simp (lt-ltb (0 + j) n (omega arith))

pub firsts_out : (n : ℕ) (l : List ℕ) (j : ℕ) → n ≤ j → get_or (firsts n l) j 0 ≡ 0
unfolding firsts
firsts_out n l j h = kept_at (λ j x. ltb j n) 0 l j ∙ simp (le-ltb (0 + j) n (omega arith))

module _ (n : ℕ) (l : List ℕ) where
  more_at : (j : ℕ) → j < length (firsts (n + 1) l) → (t u : Bool) → eqb j n ≡ t → ltb j n ≡ u → get_or (firsts (n + 1) l) j 0 ≡ get_or (set (firsts n l) n (get_or l n 0)) j 0
  more_at j h true u e g =
      let i = eqb-true j n e in
      let m : n < length (firsts n l) = omega (arith, firsts_length (n + 1) l, firsts_length n l) in
      firsts_in (n + 1) l j (omega arith)
      ∙ ap (λ (k : ℕ). get_or l k 0) i
      ∙ sym (ap (λ (k : ℕ). get_or (set (firsts n l) n (get_or l n 0)) k 0) i ∙ get_or-set_same (firsts n l) n (get_or l n 0) 0 m)
  more_at j h false true e g =
      let m = ltb-true j n g in
      firsts_in (n + 1) l j (omega arith) ∙ sym (get_or-set_other (firsts n l) n j (get_or l n 0) 0 (eqb-false j n e) ∙ firsts_in n l j m)
  more_at j h false false e g =
      let m = ltb-false j n g in
      let i : (j ≡ n → ⊥) = eqb-false j n e in
      firsts_out (n + 1) l j (omega arith) ∙ sym (get_or-set_other (firsts n l) n j (get_or l n 0) 0 i ∙ firsts_out n l j m)

  pub firsts_more : firsts (n + 1) l ≡ set (firsts n l) n (get_or l n 0)
  firsts_more =
      ext_get_or 0 _ _ (firsts_length (n + 1) l ∙ sym (length-set (firsts n l) n (get_or l n 0) ∙ firsts_length n l)) (λ j h. more_at j h _ _ refl refl)

  pub firsts_skip : get_or l n 0 ≡ 0 → firsts (n + 1) l ≡ firsts n l
  firsts_skip e = firsts_more ∙ ap (set (firsts n l) n) (e ∙ sym (firsts_out n l n (omega arith))) ∙ set-get_or (firsts n l) n 0

-- those of a list of n are all of it, and none of them is zeros
module _ (n : ℕ) (l : List ℕ) (long : length l ≡ n) where
  pub firsts_all : firsts n l ≡ l
  firsts_all =
      ext_get_or 0 (firsts n l) l (firsts_length n l) λ j h.
      let m : j < n = omega (arith, firsts_length n l) in
      firsts_in n l j m

  pub firsts_none : firsts 0 l ≡ replicate n 0
  firsts_none =
      ext_get_or 0 (firsts 0 l) (replicate n 0) (firsts_length 0 l ∙ long ∙ sym (length-replicate n 0)) λ j h.
      firsts_out 0 l j (omega arith) ∙ sym (zeros_at n j)

pub firsts_take : (n : ℕ) (l : List ℕ) → take n (firsts n l) ≡ take n l
firsts_take n l =
    ext_get_or 0 (take n (firsts n l)) (take n l) (length-take n (firsts n l) ∙ ap (min n) (firsts_length n l) ∙ sym (length-take n l)) λ j h.
    let m : j < n = omega (arith, length-take n (firsts n l)) in
    get_or-take n (firsts n l) j 0 m ∙ firsts_in n l j m ∙ sym (get_or-take n l j 0 m)

-- the next m, written one by one
pub firsts_on : (l : List ℕ) (m n : ℕ) → n + m ≤ length l → sets (firsts n l) n (take m (drop n l)) ≡ firsts (n + m) l
firsts_on l zero n h = let e : n ≡ n + 0 = omega arith in ap (λ (k : ℕ). firsts k l) e
firsts_on l (suc m) n h =
    let e : suc n + m ≡ n + suc m = omega arith in
    let one : n + 1 ≡ suc n = omega arith in
    ap (λ (x : List ℕ). sets (firsts n l) n (take (suc m) x)) (drop-cons l n 0 (omega arith))
    ∙ ap (λ (x : List ℕ). sets x (suc n) (take m (drop (suc n) l))) (sym (firsts_more n l) ∙ ap (λ (k : ℕ). firsts k l) one)
    ∙ firsts_on l m (suc n) (omega arith)
    ∙ ap (λ (k : ℕ). firsts k l) e

-- where the others are zeros already
pub firsts_rest : (n : ℕ) (l : List ℕ) → every_of (λ x. eqb x 0) (drop n l) ≡ true → firsts n l ≡ l
firsts_rest n l z = ext_get_or 0 (firsts n l) l (firsts_length n l) (λ j h. go j h (ltb j n) refl)
  where
    go : (j : ℕ) → j < length (firsts n l) → (t : Bool) → ltb j n ≡ t → get_or (firsts n l) j 0 ≡ get_or l j 0
    go j h true e = firsts_in n l j (ltb-true j n e)
    go j h false e =
        let past : n ≤ j = ltb-false j n e in
        let same : n + (j - n) ≡ j = omega arith in
        let inside : j - n < length (drop n l) = omega (arith, length-drop n l, firsts_length n l) in
        let none : get_or (drop n l) (j - n) 0 ≡ 0 = eqb-true _ _ (every_of_at (λ x. eqb x 0) (drop n l) z (j - n) inside) in
        firsts_out n l j past ∙ sym (ap (λ (k : ℕ). get_or l k 0) (sym same) ∙ sym (get_or-drop n l (j - n) 0) ∙ none)
