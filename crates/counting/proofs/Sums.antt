-- A list sorted into n heaps by a key: the heaps hold no more than the list, and all of it where every key is below n. And two
-- rows of numbers of which one is nowhere above the other and has no smaller sum are the same row.
-- Assumes nothing.
use Prim.Native.Nat.{ℕ, zero, suc, ◌+◌, ◌≤◌, ◌<◌}
use mathlib.Core.Path.{◌≡◌, refl, ap, ◌∙◌}
use mathlib.Core.Bool.{Bool, true, false, ◌&&◌}
use mathlib.Core.List.{List, [], ◌∷◌}
use native.Mathlib.Omega.{arith}
use lib.Dec.{eqb, ltb}
use lib.ListN.{length, get_or}
use borrow.Author.Tests.{eqb-true, eqb-false, ne_eqb, ltb-true, ltb-false}
use Rattle.counting.specs.Choose.{one}
use Rattle.counting.specs.Count.{count, every_of, tally, sum_below}
use Rattle.counting.proofs.Ranges.{below_suc}

-- how many of the list have the key r
abbrev pub heap : (ℕ → ℕ) → List ℕ → ℕ → ℕ
heap key xs r = count (λ x. eqb (key x) r) xs

pub sum_add : (n : ℕ) (f g : ℕ → ℕ) → sum_below n (λ r. f r + g r) ≡ sum_below n f + sum_below n g
unfolding sum_below
sum_add zero f g = refl
sum_add (suc n) f g = omega (arith, sum_add n f g)

sum_zero : (n : ℕ) → sum_below n (λ r. 0) ≡ 0
unfolding sum_below
sum_zero zero = refl
sum_zero (suc n) = omega (arith, sum_zero n)

-- one number lies on none of n heaps, or on one
above : (n k : ℕ) → n ≤ k → sum_below n (λ r. one (eqb k r)) ≡ 0
unfolding sum_below
above zero k h = refl
above (suc n) k h = omega (arith, ap one (ne_eqb k n (omega arith)), above n k (omega arith))

pub on_its_heap : (n k : ℕ) → k < n → sum_below n (λ r. one (eqb k r)) ≡ 1
unfolding sum_below
on_its_heap zero k h = absurd (omega arith)
on_its_heap (suc n) k h = go (eqb k n) refl (on_its_heap n k)
  where
    go : (b : Bool) → eqb k n ≡ b → (k < n → sum_below n (λ r. one (eqb k r)) ≡ 1) → one (eqb k n) + sum_below n (λ r. one (eqb k r)) ≡ 1
    go true e rest = let q : k ≡ n = eqb-true k n e in omega (arith, ap one e, above n k (omega arith))
    go false e rest = let d : (k ≡ n → ⊥) = eqb-false k n e in omega (arith, ap one e, rest (omega arith))

on_one_heap : (n k : ℕ) → sum_below n (λ r. one (eqb k r)) ≤ 1
on_one_heap n k = go (ltb k n) refl
  where
    go : (b : Bool) → ltb k n ≡ b → sum_below n (λ r. one (eqb k r)) ≤ 1
    go true e = omega (arith, on_its_heap n k (ltb-true k n e))
    go false e = omega (arith, above n k (ltb-false k n e))

pub heaps_within : (key : ℕ → ℕ) (n : ℕ) (xs : List ℕ) → sum_below n (heap key xs) ≤ length xs
unfolding count
heaps_within key n [] = omega (arith, sum_zero n)
heaps_within key n (x ∷ xs) =
    omega (arith, sum_add n (λ r. one (eqb (key x) r)) (heap key xs), on_one_heap n (key x), heaps_within key n xs)

pub heaps_whole : (key : ℕ → ℕ) (n : ℕ) (xs : List ℕ) → ((k : ℕ) → k < length xs → key (get_or xs k 0) < n) → sum_below n (heap key xs) ≡ length xs
unfolding count
heaps_whole key n [] low = sum_zero n
heaps_whole key n (x ∷ xs) low =
    omega (
      arith,
      sum_add n (λ r. one (eqb (key x) r)) (heap key xs),
      on_its_heap n (key x) (low 0 (omega arith)),
      heaps_whole key n xs (λ k h. low (suc k) (omega arith)),
    )

-- keys that are all on the heaps are all below n
pub heaps_full : (key : ℕ → ℕ) (n : ℕ) (xs : List ℕ) → sum_below n (heap key xs) ≡ length xs → every_of (λ x. ltb (key x) n) xs ≡ true
unfolding count every_of
heaps_full key n [] e = refl
heaps_full key n (x ∷ xs) e = go (ltb (key x) n) refl (heaps_full key n xs)
  where
    parts : sum_below n (heap key (x ∷ xs)) ≡ sum_below n (λ r. one (eqb (key x) r)) + sum_below n (heap key xs)
    parts = sum_add n (λ r. one (eqb (key x) r)) (heap key xs)

    go : (b : Bool) → ltb (key x) n ≡ b → (sum_below n (heap key xs) ≡ length xs → every_of (λ y. ltb (key y) n) xs ≡ true)
        → (b && every_of (λ y. ltb (key y) n) xs) ≡ true
    go true t rest = rest (omega (arith, parts, on_its_heap n (key x) (ltb-true (key x) n t)))
    go false t rest = absurd (omega (arith, parts, above n (key x) (ltb-false (key x) n t), heaps_within key n xs))

pub sum_le : (n : ℕ) (f g : ℕ → ℕ) → ((r : ℕ) → r < n → f r ≤ g r) → sum_below n f ≤ sum_below n g
unfolding sum_below
sum_le zero f g h = omega arith
sum_le (suc n) f g h = omega (arith, h n (omega arith), sum_le n f g (λ r p. h r (omega arith)))

pub sum_same : (n : ℕ) (f g : ℕ → ℕ) → ((r : ℕ) → r < n → f r ≡ g r) → sum_below n f ≡ sum_below n g
sum_same n f g e = omega (arith, sum_le n f g (λ r h. omega (arith, e r h)), sum_le n g f (λ r h. omega (arith, e r h)))

-- f is nowhere above g, and its sum is no smaller: f is g
pub squeezed : (n : ℕ) (f g : ℕ → ℕ) → ((r : ℕ) → r < n → f r ≤ g r) → sum_below n g ≤ sum_below n f → (r : ℕ) → r < n → f r ≡ g r
unfolding sum_below
squeezed zero f g h s r p = absurd (omega arith)
squeezed (suc n) f g h s r p =
    let low : (k : ℕ) → k < n → f k ≤ g k = λ k q. h k (omega arith) in
    below_suc (λ k. f k ≡ g k) n r p (omega (arith, h n (omega arith), sum_le n f g low)) (squeezed n f g low (omega (arith, h n (omega arith), sum_le n f g low)) r)

pub sum-none : (n : ℕ) (g : ℕ → ℕ) → ((r : ℕ) → r < n → g r ≡ 0) → sum_below n g ≡ 0
sum-none n g e = sum_same n g (λ r. 0) e ∙ sum_zero n

-- no number is above the sum
pub sum_at : (n : ℕ) (g : ℕ → ℕ) (r : ℕ) → r < n → g r ≤ sum_below n g
unfolding sum_below
sum_at zero g r h = absurd (omega arith)
sum_at (suc n) g r h = below_suc (λ k. g k ≤ g n + sum_below n g) n r h (omega arith) (λ l. omega (arith, sum_at n g r l))

-- how many pass is the sum of the tests as numbers
pub tally-sum : (n : ℕ) (f : ℕ → Bool) → tally n f ≡ sum_below n (λ r. one (f r))
unfolding tally sum_below
tally-sum zero f = refl
tally-sum (suc n) f = omega (arith, tally-sum n f)
