-- Stores into a list, from a place on: values one at a time, one run of them after the other, and as many as the list has places.
-- Assumes nothing.
use Prim.Native.Nat.{ℕ, suc, ◌+◌, ◌≤◌, ◌<◌}
use mathlib.Core.Path.{◌≡◌, ap, ◌∙◌}
use mathlib.Core.List.{List, [], ◌∷◌, ◌++◌, append-nil}
use native.Mathlib.Numerals.{add-one}
use native.Mathlib.Omega.{arith}
use lib.ListN.{length, get_or, set, drop, drop_of_length-le}
use lib.Seq.{sets, sets-eq, drop-cons, drop-length}

-- ---- a run of stores that has come to its i-th value

pub sets_start : (l vs : List ℕ) (at : ℕ) → sets l (at + 0) (drop 0 vs) ≡ sets l at vs
sets_start l vs at = let e : at + 0 ≡ at = omega arith in ap (λ (n : ℕ). sets l n vs) e

pub sets_next : (l vs : List ℕ) (to i : ℕ) → i < length vs → sets l to (drop i vs) ≡ sets (set l to (get_or vs i 0)) (to + 1) (drop (i + 1) vs)
sets_next l vs to i h = rw (add-one to, add-one i, drop-cons vs i 0)

pub sets_more : (l vs : List ℕ) (at i : ℕ) → i < length vs → sets l (at + i) (drop i vs) ≡ sets (set l (at + i) (get_or vs i 0)) (at + (i + 1)) (drop (i + 1) vs)
sets_more l vs at i h = let e : at + i + 1 ≡ at + (i + 1) = omega arith in rw e at (sets_next l vs (at + i) i h)

pub sets_done : (l vs : List ℕ) (at i : ℕ) → length vs ≤ i → sets l at (drop i vs) ≡ l
sets_done l vs at i h = ap (sets l at) (drop_of_length-le vs h)

-- ---- one run after the other

pub sets_append : (xs ys l : List ℕ) (i : ℕ) → sets l i (xs ++ ys) ≡ sets (sets l i xs) (i + length xs) ys
sets_append [] ys l i = let e : i ≡ i + 0 = omega arith in ap (λ (n : ℕ). sets l n ys) e
sets_append (x ∷ xs) ys l i =
    let e : suc i + length xs ≡ i + suc (length xs) = omega arith in
    sets_append xs ys (set l i x) (suc i) ∙ ap (λ (n : ℕ). sets (sets (set l i x) (suc i) xs) n ys) e

-- of a list as long, nothing is left
pub sets_all : (l vs : List ℕ) → length l ≡ length vs → sets l 0 vs ≡ vs
sets_all l vs e =
    let far : 0 + length vs ≡ length l = omega arith in
    sets-eq vs l 0 (omega arith) ∙ rw (far, drop-length l) (append-nil vs)
