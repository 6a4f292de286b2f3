-- Lists that are gathered place by place: the same at each place, row by row, one more at the last that has any; with m numbers at each place, how long they are,
-- and what stands where.
-- Assumes nothing.
use Prim.Native.Nat.{ℕ, zero, suc, ◌+◌, ◌*◌, ◌/◌, ◌%◌, ◌≤◌, ◌<◌}
use mathlib.Core.Path.{◌≡◌, refl, ap, sym, ◌∙◌}
use mathlib.Core.Bool.{Bool, true, false}
use mathlib.Core.List.{List, [], ◌∷◌, ◌++◌, append_assoc, append-nil}
use native.Mathlib.Nat.{mul-le-mul_left, mul-add, mul-one}
use native.Mathlib.Numerals.{add-one}
use native.Mathlib.Omega.{arith}
use lib.Dec.{eqb}
use lib.ListN.{length, get_or, length-append, get_or-append}
use lib.Seq.{ext_get_or, get_or-append-add}
use borrow.Author.Tests.{eqb-true, eqb-false}
use Rattle.counting.specs.Count.{sum_below, total, gather, each}
use Rattle.counting.proofs.Ranges.{below_suc}

-- ---- place by place

module _ {A : Type 0} where
  pub gather_same : (n : ℕ) (f g : ℕ → List A) → ((k : ℕ) → k < n → f k ≡ g k) → gather n f ≡ gather n g
  unfolding gather
  gather_same zero f g e = refl
  gather_same (suc n) f g e = rw (gather_same n f g (λ k h. e k (omega arith)), e n (omega arith))

  pub gather_none : (n : ℕ) (f : ℕ → List A) → ((k : ℕ) → k < n → f k ≡ []) → gather n f ≡ []
  unfolding gather
  gather_none zero f e = refl
  gather_none (suc n) f e = rw (gather_none n f (λ k h. e k (omega arith)), e n (omega arith))

  gather_add : (m : ℕ) (f : ℕ → List A) (n : ℕ) → gather (m + n) f ≡ gather m f ++ gather n (λ k. f (m + k))
  unfolding gather
  gather_add m f zero = let e : m + 0 ≡ m = omega arith in rw e (sym (append-nil (gather m f)))
  gather_add m f (suc n) =
      let e : m + suc n ≡ suc (m + n) = omega arith in
      rw (e, gather_add m f n) (append_assoc (gather m f) (gather n (λ k. f (m + k))) (f (m + n)))

  -- row by row, with seven in each
  pub gather_rows : (g : ℕ → ℕ → List A) (n : ℕ) → gather (7 * n) (λ i. g (i / 7) (i % 7)) ≡ gather n (λ s. gather 7 (g s))
  unfolding gather
  gather_rows g zero = refl
  gather_rows g (suc n) =
      let e : 7 * suc n ≡ 7 * n + 7 = omega arith in
      let row : gather 7 (λ k. g ((7 * n + k) / 7) ((7 * n + k) % 7)) ≡ gather 7 (g n) =
      gather_same 7 (λ k. g ((7 * n + k) / 7) ((7 * n + k) % 7)) (g n)
      (λ k h.
      let a : (7 * n + k) / 7 ≡ n = omega arith in
      let b : (7 * n + k) % 7 ≡ k = omega arith in
      rw (a, b)) in
      rw e (gather_add (7 * n) (λ i. g (i / 7) (i % 7)) 7 ∙ rw (gather_rows g n) (ap (λ (x : List A). gather n (λ s. gather 7 (g s)) ++ x) row))

  -- the one has x at place j, where the other has nothing, and nothing after it
  module _ (f g : ℕ → List A) (j : ℕ) (x : List A) (empty : f j ≡ []) (there : g j ≡ x) where
    pub gather_last : (n : ℕ) → j < n → ((i : ℕ) → i < n → (i ≡ j → ⊥) → g i ≡ f i) → ((i : ℕ) → j < i → i < n → f i ≡ []) → gather n g ≡ gather n f ++ x
    unfolding gather
    gather_last zero h alike rest = absurd (omega arith)
    gather_last (suc n) h alike rest = go (eqb j n) refl (gather_last n)
      where
        go : (t : Bool) → eqb j n ≡ t
            → (j < n → ((i : ℕ) → i < n → (i ≡ j → ⊥) → g i ≡ f i) → ((i : ℕ) → j < i → i < n → f i ≡ []) → gather n g ≡ gather n f ++ x)
            → gather n g ++ g n ≡ (gather n f ++ f n) ++ x
        go true e below =
            let q : j ≡ n = eqb-true j n e in
            let first : gather n g ≡ gather n f = gather_same n g f (λ i l. alike i (omega arith) (λ z. omega arith)) in
            let gn : g n ≡ x = ap g (sym q) ∙ there in
            let fn : f n ≡ [] = ap f (sym q) ∙ empty in
            rw (first, gn, fn, append-nil (gather n f))
        go false e below =
            let d : (j ≡ n → ⊥) = eqb-false j n e in
            let fn : f n ≡ [] = rest n (omega arith) (omega arith) in
            let gn : g n ≡ [] = alike n (omega arith) (λ z. d (sym z)) ∙ fn in
            rw (gn, fn, append-nil (gather n g), append-nil (gather n f))
            (below (omega arith) (λ i l. alike i (omega arith)) (λ i l m. rest i l (omega arith)))

-- ---- m numbers at each of n places

pub one_more : (m n : ℕ) → m * (n + 1) ≡ m * n + m
one_more m n = rw (mul-add m n 1, mul-one m)

module _ (m : ℕ) (f : ℕ → List ℕ) where
  pub gather-length : (n : ℕ) → ((k : ℕ) → k < n → length (f k) ≡ m) → length (gather n f) ≡ m * n
  unfolding gather
  gather-length zero h = omega arith
  gather-length (suc n) h =
      let all : length (gather n f ++ f n) ≡ m * (n + 1) =
      length-append (gather n f) (f n) ∙ omega (arith, gather-length n (λ k l. h k (omega arith)), h n (omega arith), one_more m n) in
      rw add-one at all

  pub gather_at : (n : ℕ) → ((k : ℕ) → k < n → length (f k) ≡ m) → (k w : ℕ) → k < n → w < m → get_or (gather n f) (m * k + w) 0 ≡ get_or (f k) w 0
  unfolding gather
  gather_at zero h k w l p = absurd (omega arith)
  gather_at (suc n) h k w l p =
      let long : length (gather n f) ≡ m * n = gather-length n (λ i q. h i (omega arith)) in
      below_suc (λ i. get_or (gather n f ++ f n) (m * i + w) 0 ≡ get_or (f i) w 0) n k l
      (rw (← long) (get_or-append-add (gather n f) (f n) w 0))
      (λ q.
      let room : m * (k + 1) ≤ m * n = mul-le-mul_left m (omega arith) in
      let inside : m * k + w < length (gather n f) = omega (arith, one_more m k) in
      get_or-append (gather n f) (f n) 0 (m * k + w) inside ∙ gather_at n (λ i s. h i (omega arith)) k w q p)

-- ---- one number at each

total_last : (l : List ℕ) (x : ℕ) → total (l ++ (x ∷ [])) ≡ x + total l
unfolding total
total_last [] x = refl
total_last (y ∷ l) x = omega (arith, total_last l x)

module _ (g : ℕ → ℕ) where
  pub each-length : (n : ℕ) → length (each n g) ≡ n
  each-length n = gather-length 1 (λ k. g k ∷ []) n (λ k h. refl) ∙ omega arith

  pub each_at : (n k : ℕ) → k < n → get_or (each n g) k 0 ≡ g k
  each_at n k h =
      let e : 1 * k + 0 ≡ k = omega arith in
      rw e at (gather_at 1 (λ i. g i ∷ []) n (λ i l. refl) k 0 h (omega arith))

  pub each-total : (n : ℕ) → total (each n g) ≡ sum_below n g
  unfolding gather total sum_below
  each-total zero = refl
  each-total (suc n) = total_last (each n g) (g n) ∙ omega (arith, each-total n)

-- a list of n is what stands at each of its places
pub each_of : (l : List ℕ) (n : ℕ) → length l ≡ n → l ≡ each n (λ k. get_or l k 0)
each_of l n long =
    let at : ℕ → ℕ = λ k. get_or l k 0 in
    ext_get_or 0 l (each n at) (long ∙ sym (each-length at n)) (λ k h. sym (each_at at n k (omega arith)))
