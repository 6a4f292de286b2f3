-- The same things in another order: put together, one more in a list that is gathered; as many, as many that pass a test, and the same total.
-- Assumes nothing.
use Prim.Native.Nat.{ℕ, zero, suc, ◌+◌, ◌<◌}
use mathlib.Core.Path.{◌≡◌, refl, ap, sym, subst, ◌∙◌}
use mathlib.Core.Bool.{Bool, true, false, ◌&&◌}
use mathlib.Core.List.{List, [], ◌∷◌, ◌++◌, map, append_assoc, append-nil}
use native.Mathlib.Omega.{arith}
use lib.Dec.{eqb}
use lib.ListN.{length}
use borrow.Author.Tests.{eqb-true, eqb-false}
use Rattle.counting.specs.Choose.{one}
use Rattle.counting.specs.Count.{count, every_of, total, gather}
use Rattle.counting.specs.Order.{Reordered}
use Rattle.counting.specs.Order.Reordered.{none, keep, swap, then}
use Rattle.counting.proofs.Gathers.{gather_same}

module _ {A : Type 0} where
  pub same : (xs : List A) → Reordered xs xs
  same [] = none
  same (x ∷ xs) = keep (same xs)

  pub equal : {xs ys : List A} → xs ≡ ys → Reordered xs ys
  equal {xs} e = subst (λ (l : List A). Reordered xs l) e (same xs)

  pub back : {xs ys : List A} → Reordered xs ys → Reordered ys xs
  back none = none
  back (keep p) = keep (back p)
  back swap = swap
  back (then p q) = then (back q) (back p)

  -- with the same list behind both, or before both
  pub behind : {xs ys : List A} (l : List A) → Reordered xs ys → Reordered (xs ++ l) (ys ++ l)
  behind l none = same l
  behind l (keep p) = keep (behind l p)
  behind l swap = swap
  behind l (then p q) = then (behind l p) (behind l q)

  pub before : {xs ys : List A} (l : List A) → Reordered xs ys → Reordered (l ++ xs) (l ++ ys)
  before [] p = p
  before (x ∷ l) p = keep (before l p)

  -- the first at the end
  to_end : (x : A) (xs : List A) → Reordered (x ∷ xs) (xs ++ (x ∷ []))
  to_end x [] = same (x ∷ [])
  to_end x (y ∷ xs) = then swap (keep (to_end x xs))

  -- ---- lists that are gathered, one with x at place j, where the other has nothing
  module _ (f g : ℕ → List A) (j : ℕ) (x : A) (empty : f j ≡ []) (there : g j ≡ x ∷ []) where
    pub gather-one : (n : ℕ) → j < n → ((i : ℕ) → i < n → (i ≡ j → ⊥) → g i ≡ f i) → Reordered (gather n f ++ (x ∷ [])) (gather n g)
    unfolding gather
    gather-one zero h alike = absurd (omega arith)
    gather-one (suc n) h alike = go (eqb j n) refl (gather-one n)
      where
        go : (t : Bool) → eqb j n ≡ t → (j < n → ((i : ℕ) → i < n → (i ≡ j → ⊥) → g i ≡ f i) → Reordered (gather n f ++ (x ∷ [])) (gather n g))
            → Reordered ((gather n f ++ f n) ++ (x ∷ [])) (gather n g ++ g n)
        go true e below =
            let q : j ≡ n = eqb-true j n e in
            let first : gather n g ≡ gather n f = gather_same n g f (λ i l. alike i (omega arith) (λ z. omega arith)) in
            let gn : g n ≡ x ∷ [] = ap g (sym q) ∙ there in
            let fn : f n ≡ [] = ap f (sym q) ∙ empty in
            rw (first, gn, fn, append-nil (gather n f)) (same (gather n f ++ (x ∷ [])))
        go false e below =
            let d : (j ≡ n → ⊥) = eqb-false j n e in
            let gn : g n ≡ f n = alike n (omega arith) (λ z. d (sym z)) in
            let rest = behind (f n) (below (omega arith) (λ i l. alike i (omega arith))) in
            let move = before (gather n f) (back (to_end x (f n))) in
            rw (gn, append_assoc (gather n f) (f n) (x ∷ []))
            (then move (then (equal (sym (append_assoc (gather n f) (x ∷ []) (f n)))) rest))

  pub reordered_length : {xs ys : List A} → Reordered xs ys → length xs ≡ length ys
  reordered_length none = refl
  reordered_length (keep p) = ap suc (reordered_length p)
  reordered_length swap = refl
  reordered_length (then p q) = reordered_length p ∙ reordered_length q

pub reordered_count : (f : ℕ → Bool) {xs ys : List ℕ} → Reordered xs ys → count f xs ≡ count f ys
unfolding count
reordered_count f none = refl
reordered_count f (keep {x} p) = ap (λ (n : ℕ). one (f x) + n) (reordered_count f p)
reordered_count f (swap {x} {y} {xs}) = omega arith
reordered_count f (then p q) = reordered_count f p ∙ reordered_count f q

and_swap : (a b c : Bool) → (a && (b && c)) ≡ (b && (a && c))
and_swap true b c = refl
and_swap false true c = refl
and_swap false false c = refl

pub reordered_every : (f : ℕ → Bool) {xs ys : List ℕ} → Reordered xs ys → every_of f xs ≡ every_of f ys
unfolding every_of
reordered_every f none = refl
reordered_every f (keep {x} p) = ap (λ (b : Bool). f x && b) (reordered_every f p)
reordered_every f (swap {x} {y} {xs}) = and_swap (f x) (f y) (every_of f xs)
reordered_every f (then p q) = reordered_every f p ∙ reordered_every f q

pub reordered_total : {xs ys : List ℕ} → Reordered xs ys → total xs ≡ total ys
unfolding total
reordered_total none = refl
reordered_total (keep {x} p) = ap (λ (n : ℕ). x + n) (reordered_total p)
reordered_total (swap {x} {y} {xs}) = omega arith
reordered_total (then p q) = reordered_total p ∙ reordered_total q

pub reordered_map : (f : ℕ → ℕ) {xs ys : List ℕ} → Reordered xs ys → Reordered (map f xs) (map f ys)
reordered_map f none = none
reordered_map f (keep p) = keep (reordered_map f p)
reordered_map f swap = swap
reordered_map f (then p q) = then (reordered_map f p) (reordered_map f q)
