-- The folds of the first i slots, street by street: the fold of the seat at place k on street f, counted from 1, is in slot (f - 1) * 7 + k.
-- Assumes nothing.
use Prim.Native.Nat.{ℕ, zero, suc, ◌+◌, ◌*◌, ◌≤◌, ◌<◌}
use mathlib.Core.Path.{◌≡◌, refl, sym, ap, ◌∙◌}
use mathlib.Core.Bool.{Bool, true, false}
use mathlib.Core.List.{List}
use native.Mathlib.Omega.{arith}
use lib.Dec.{eqb, ltb}
use lib.ListN.{get_or, set, length, length-set, replicate}
use lib.Seq.{ext_get_or, get_or-set_same, get_or-set_other}
use borrow.Author.Tests.{eqb-true, eqb-false, ltb-true, ltb-false, lt-ltb, le-ltb}
use Rattle.counting.proofs.Firsts.{kept, kept-length, kept_at, zeros_at}

abbrev by : ℕ → ℕ → ℕ → Bool
by i k f = ltb (f * 7 + k) (i + 7)

unfoldable pub first_folds : ℕ → List ℕ → List ℕ
first_folds i l = kept (by i) 0 l

pub folds_length : (i : ℕ) (l : List ℕ) → length (first_folds i l) ≡ length l
unfolding first_folds
folds_length i l = kept-length (by i) 0 l

pub folds_in : (i : ℕ) (l : List ℕ) (k : ℕ) → get_or l k 0 * 7 + k < i + 7 → get_or (first_folds i l) k 0 ≡ get_or l k 0
unfolding first_folds
folds_in i l k h = kept_at (by i) 0 l k ∙ simp (lt-ltb (get_or l k 0 * 7 + (0 + k)) (i + 7) (omega arith))

pub folds_out : (i : ℕ) (l : List ℕ) (k : ℕ) → i + 7 ≤ get_or l k 0 * 7 + k → get_or (first_folds i l) k 0 ≡ 0
unfolding first_folds
folds_out i l k h = kept_at (by i) 0 l k ∙ simp (le-ltb (get_or l k 0 * 7 + (0 + k)) (i + 7) (omega arith))

-- the slot of street s and place k, where there is no fold; and where there is one
module _ (s k : ℕ) (l : List ℕ) (h : k < 7) (long : length l ≡ 7) where
  skip_at : (j : ℕ) → j < 7 → (j ≡ k → get_or l j 0 ≡ s + 1 → ⊥) → (t : Bool) → ltb (get_or l j 0 * 7 + j) (s * 7 + k + 7) ≡ t
      → get_or (first_folds (s * 7 + k + 1) l) j 0 ≡ get_or (first_folds (s * 7 + k) l) j 0
  skip_at j g n true e =
      let m : get_or l j 0 * 7 + j < s * 7 + k + 7 = ltb-true _ _ e in
      folds_in (s * 7 + k + 1) l j (omega arith) ∙ sym (folds_in (s * 7 + k) l j m)
  skip_at j g n false e =
      let m : s * 7 + k + 7 ≤ get_or l j 0 * 7 + j = ltb-false _ _ e in
      folds_out (s * 7 + k + 1) l j (past_it m _ refl) ∙ sym (folds_out (s * 7 + k) l j m)
    where
      past_it : s * 7 + k + 7 ≤ get_or l j 0 * 7 + j → (u : Bool) → eqb (s * 7 + k + 7) (get_or l j 0 * 7 + j) ≡ u
          → s * 7 + k + 1 + 7 ≤ get_or l j 0 * 7 + j
      past_it m true q =
          let i : s * 7 + k + 7 ≡ get_or l j 0 * 7 + j = eqb-true _ _ q in
          let jk : j ≡ k = omega arith in
          let f : get_or l j 0 ≡ s + 1 = omega arith in
          absurd (n jk f)
      past_it m false q =
          let i : (s * 7 + k + 7 ≡ get_or l j 0 * 7 + j → ⊥) = eqb-false _ _ q in
          omega arith

  pub folds_skip : (get_or l k 0 ≡ s + 1 → ⊥) → first_folds (s * 7 + k + 1) l ≡ first_folds (s * 7 + k) l
  folds_skip n =
      ext_get_or 0 _ _ (folds_length _ l ∙ sym (folds_length _ l)) λ j g.
      let m : j < 7 = omega (arith, folds_length (s * 7 + k + 1) l) in
      skip_at j m (λ e f. n (ap (λ (i : ℕ). get_or l i 0) (sym e) ∙ f)) _ refl

  more_at : get_or l k 0 ≡ s + 1 → (j : ℕ) → j < 7 → (t : Bool) → eqb j k ≡ t
      → get_or (first_folds (s * 7 + k + 1) l) j 0 ≡ get_or (set (first_folds (s * 7 + k) l) k (s + 1)) j 0
  more_at f j g true e =
      let jk : j ≡ k = eqb-true j k e in
      let fj : get_or l j 0 ≡ s + 1 = ap (λ (i : ℕ). get_or l i 0) jk ∙ f in
      let m : k < length (first_folds (s * 7 + k) l) = omega (arith, folds_length (s * 7 + k) l) in
      folds_in (s * 7 + k + 1) l j (omega arith)
      ∙ fj
      ∙ sym (ap (λ (i : ℕ). get_or (set (first_folds (s * 7 + k) l) k (s + 1)) i 0) jk ∙ get_or-set_same (first_folds (s * 7 + k) l) k (s + 1) 0 m)
  more_at f j g false e =
      let n : (j ≡ k → ⊥) = eqb-false j k e in
      skip_at j g (λ i q. n i) _ refl ∙ sym (get_or-set_other (first_folds (s * 7 + k) l) k j (s + 1) 0 n)

  pub folds_more : get_or l k 0 ≡ s + 1 → first_folds (s * 7 + k + 1) l ≡ set (first_folds (s * 7 + k) l) k (s + 1)
  folds_more f =
      ext_get_or 0 _ _ (folds_length _ l ∙ sym (length-set (first_folds (s * 7 + k) l) k (s + 1) ∙ folds_length _ l)) λ j g.
      let m : j < 7 = omega (arith, folds_length (s * 7 + k + 1) l) in
      more_at f j m _ refl

-- those of all slots are all, those of none are zeros
module _ (l : List ℕ) (long : length l ≡ 7) where
  pub folds_all : ((k : ℕ) → k < 7 → get_or l k 0 ≤ 3) → first_folds 21 l ≡ l
  folds_all h =
      ext_get_or 0 (first_folds 21 l) l (folds_length 21 l) λ j g.
      let m : j < 7 = omega (arith, folds_length 21 l) in
      folds_in 21 l j (omega (arith, h j m))

  none_at : (k f : ℕ) → k < 7 → get_or l k 0 ≡ f → get_or (first_folds 0 l) k 0 ≡ 0
  none_at k zero h e = folds_in 0 l k (omega arith) ∙ e
  none_at k (suc f) h e = folds_out 0 l k (omega arith)

  pub folds_none : first_folds 0 l ≡ replicate 7 0
  folds_none =
      ext_get_or 0 (first_folds 0 l) (replicate 7 0) (folds_length 0 l ∙ long) λ j g.
      let m : j < 7 = omega (arith, folds_length 0 l) in
      none_at j _ m refl ∙ sym (zeros_at 7 j)
