-- A list that is filled place by place with what another has; where that was gathered in rows, row by row.
-- Assumes nothing.
use Prim.Native.Nat.{ℕ, ◌+◌, ◌*◌, ◌≤◌, ◌<◌}
use mathlib.Core.Path.{◌≡◌, refl, sym, ◌∙◌}
use mathlib.Core.List.{List, [], ◌∷◌, ◌++◌, append_assoc, append-nil}
use native.Mathlib.Nat.{mul-le-mul_left}
use native.Mathlib.Numerals.{add-one}
use native.Mathlib.Omega.{arith}
use lib.ListN.{length, get_or, set, take, drop, length-set, drop_of_length-le}
use lib.Seq.{take-suc-set, take_all, drop-cons}
use Rattle.counting.specs.Count.{gather, each}
use Rattle.counting.proofs.Gathers.{one_more, gather-length, gather_at}

-- the first i places hold what the other list has there: those, then what is still to come, are all of it
abbrev pub Filled : List ℕ → List ℕ → ℕ → Type 0
Filled t l i = (length l ≡ length t) × (take i l ++ drop i t ≡ t)

module _ (t l : List ℕ) where
  pub fill_none : length l ≡ length t → Filled t l 0
  fill_none e = (e, refl)

  pub fill_more : (i v : ℕ) → Filled t l i → i < length t → v ≡ get_or t i 0 → Filled t (set l i v) (i + 1)
  fill_more i v s h e =
      let room : i < length l = omega (arith, s.0) in (
        length-set l i v ∙ s.0,
        rw (e, add-one, take-suc-set, append_assoc) (rw (← drop-cons t i 0 h) s.1),
      )

  pub filled : (i : ℕ) → Filled t l i → length t ≤ i → l ≡ t
  filled i s h =
      let all : take i l ++ drop i t ≡ l = rw (drop_of_length-le t h, take_all i l (omega (arith, s.0))) (append-nil l) in
      sym all ∙ s.1

-- ---- n rows of m numbers

module _ (m n : ℕ) (f : ℕ → List ℕ) (wide : (k : ℕ) → k < n → length (f k) ≡ m) (l : List ℕ) where
  pub rows_none : length l ≡ m * n → Filled (gather n f) l 0
  rows_none e = fill_none (gather n f) l (e ∙ sym (gather-length m f n wide))

  -- number w of row k
  pub row_more : (k w v : ℕ) → Filled (gather n f) l (m * k + w) → k < n → w < m → v ≡ get_or (f k) w 0
      → Filled (gather n f) (set l (m * k + w) v) (m * k + w + 1)
  row_more k w v s h p e =
      let room : m * (k + 1) ≤ m * n = mul-le-mul_left m (omega arith) in
      fill_more (gather n f) l (m * k + w) v s (omega (arith, one_more m k, gather-length m f n wide)) (e ∙ sym (gather_at m f n wide k w h p))

  pub rows_all : (k : ℕ) → Filled (gather n f) l (m * k) → n ≤ k → l ≡ gather n f
  rows_all k s h =
      let room : m * n ≤ m * k = mul-le-mul_left m h in
      filled (gather n f) l (m * k) s (omega (arith, gather-length m f n wide))

-- ---- one number at each of n places

module _ (n : ℕ) (g : ℕ → ℕ) (l : List ℕ) where
  abbrev pub Each : ℕ → Type 0
  Each k = Filled (each n g) l k

  alone : (k : ℕ) → k < n → length (g k ∷ []) ≡ 1
  alone k h = refl

  pub each_none : length l ≡ n → Each 0
  each_none e = rows_none 1 n (λ k. g k ∷ []) alone l (omega arith)

  pub each_more : (k v : ℕ) → Each k → k < n → v ≡ g k → Filled (each n g) (set l k v) (k + 1)
  each_more k v s h e =
      let here : 1 * k + 0 ≡ k = omega arith in
      rw here at (row_more 1 n (λ i. g i ∷ []) alone l k 0 v (rw here s) h (omega arith) e)

  pub each_all : (k : ℕ) → Each k → n ≤ k → l ≡ each n g
  each_all k s h =
      let here : 1 * k ≡ k = omega arith in
      rows_all 1 n (λ i. g i ∷ []) alone l k (rw here s) h
