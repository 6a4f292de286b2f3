-- Laws of counting and testing along a list that is read from the front, place by place, and of testing a list that is put together or cut.
-- Assumes nothing.
use Prim.Native.Nat.{ℕ, zero, suc, ◌+◌, ◌≤◌, ◌<◌}
use mathlib.Core.Path.{◌≡◌, refl, ap}
use mathlib.Core.Bool.{Bool, true, false, ◌&&◌}
use mathlib.Core.List.{List, [], ◌∷◌, ◌++◌}
use native.Mathlib.Numerals.{add-one}
use native.Mathlib.Omega.{arith}
use lib.ListN.{length, get_or, drop, drop_of_length-le}
use lib.Seq.{drop-cons}
use Rattle.counting.specs.Choose.{one}
use Rattle.counting.specs.Count.{count, every_of, total}
use Rattle.counting.proofs.Tests.{and_true, both, one_le, one_true}

-- ---- count: a loop at place i that has found n

pub count_step : (f : ℕ → Bool) (xs : List ℕ) (i : ℕ) → i < length xs → count f (drop i xs) ≡ one (f (get_or xs i 0)) + count f (drop (i + 1) xs)
unfolding count
count_step f xs i h = rw (add-one, drop-cons xs i 0)

pub count_end : (f : ℕ → Bool) (xs : List ℕ) (i : ℕ) → length xs ≤ i → count f (drop i xs) ≡ 0
unfolding count
count_end f xs i h = rw drop_of_length-le

abbrev pub Counted : (ℕ → Bool) → List ℕ → ℕ → ℕ → Type 0
Counted f xs n i = (i ≤ length xs) × (n ≤ i) × (n + count f (drop i xs) ≡ count f xs)

pub count_hit : (f : ℕ → Bool) (xs : List ℕ) (n i : ℕ) → Counted f xs n i → i < length xs → f (get_or xs i 0) ≡ true → Counted f xs (n + 1) (i + 1)
count_hit f xs n i v h t = omega (arith, count_step f xs i h, ap one t)

pub count_miss : (f : ℕ → Bool) (xs : List ℕ) (n i : ℕ) → Counted f xs n i → i < length xs → f (get_or xs i 0) ≡ false → Counted f xs n (i + 1)
count_miss f xs n i v h t = omega (arith, count_step f xs i h, ap one t)

pub count-done : (f : ℕ → Bool) (xs : List ℕ) (n i : ℕ) → Counted f xs n i → length xs ≤ i → n ≡ count f xs
count-done f xs n i v h = omega (arith, count_end f xs i h)

-- ---- every

pub every_of_step : (f : ℕ → Bool) (xs : List ℕ) (i : ℕ) → i < length xs → every_of f (drop i xs) ≡ (f (get_or xs i 0) && every_of f (drop (i + 1) xs))
unfolding every_of
every_of_step f xs i h = rw (add-one, drop-cons xs i 0)

pub every_of_end : (f : ℕ → Bool) (xs : List ℕ) (i : ℕ) → length xs ≤ i → every_of f (drop i xs) ≡ true
unfolding every_of
every_of_end f xs i h = rw drop_of_length-le

pub every_of_at : (f : ℕ → Bool) (xs : List ℕ) → every_of f xs ≡ true → (k : ℕ) → k < length xs → f (get_or xs k 0) ≡ true
unfolding every_of
every_of_at f [] e k h = absurd (omega arith)
every_of_at f (x ∷ xs) e zero h = (and_true (f x) (every_of f xs) e).0
every_of_at f (x ∷ xs) e (suc k) h = every_of_at f xs (and_true (f x) (every_of f xs) e).1 k (omega arith)

pub at_every_of : (f : ℕ → Bool) (xs : List ℕ) → ((k : ℕ) → k < length xs → f (get_or xs k 0) ≡ true) → every_of f xs ≡ true
unfolding every_of
at_every_of f [] h = refl
at_every_of f (x ∷ xs) h = both (f x) (every_of f xs) (h 0 (omega arith)) (at_every_of f xs (λ k l. h (suc k) (omega arith)))

-- of lists that are put together
pub count_both : (f : ℕ → Bool) (a b : List ℕ) → count f (a ++ b) ≡ count f a + count f b
unfolding count
count_both f [] b = omega arith
count_both f (x ∷ xs) b = omega (arith, count_both f xs b)

-- as many pass as there are exactly where each passes
pub count_most : (f : ℕ → Bool) (xs : List ℕ) → count f xs ≤ length xs
unfolding count
count_most f [] = omega arith
count_most f (x ∷ xs) = omega (arith, one_le (f x), count_most f xs)

pub count_all : (f : ℕ → Bool) (xs : List ℕ) → count f xs ≡ length xs → every_of f xs ≡ true
unfolding count every_of
count_all f [] e = refl
count_all f (x ∷ xs) e =
    let most = one_le (f x) in
    let rest = count_most f xs in
    both (f x) (every_of f xs) (one_true (f x) (omega arith)) (count_all f xs (omega arith))

pub all_count : (f : ℕ → Bool) (xs : List ℕ) → every_of f xs ≡ true → count f xs ≡ length xs
unfolding count every_of
all_count f [] e = refl
all_count f (x ∷ xs) e = let p = and_true (f x) (every_of f xs) e in omega (arith, ap one p.0, all_count f xs p.1)

-- of lists that are put together or cut
module _ (f : ℕ → Bool) where
  pub every_of_both : (a b : List ℕ) → every_of f a ≡ true → every_of f b ≡ true → every_of f (a ++ b) ≡ true
  unfolding every_of
  every_of_both [] b p q = q
  every_of_both (x ∷ xs) b p q =
      let t = and_true (f x) (every_of f xs) p in both (f x) (every_of f (xs ++ b)) t.0 (every_of_both xs b t.1 q)

  pub every_of_left : (a b : List ℕ) → every_of f (a ++ b) ≡ true → every_of f a ≡ true
  unfolding every_of
  every_of_left [] b e = refl
  every_of_left (x ∷ xs) b e =
      let t = and_true (f x) (every_of f (xs ++ b)) e in both (f x) (every_of f xs) t.0 (every_of_left xs b t.1)

  pub every_of_right : (a b : List ℕ) → every_of f (a ++ b) ≡ true → every_of f b ≡ true
  unfolding every_of
  every_of_right [] b e = e
  every_of_right (x ∷ xs) b e = every_of_right xs b (and_true (f x) (every_of f (xs ++ b)) e).1

  pub every_of-drop : (n : ℕ) (l : List ℕ) → every_of f l ≡ true → every_of f (drop n l) ≡ true
  unfolding every_of
  every_of-drop zero l e = e
  every_of-drop (suc n) [] e = refl
  every_of-drop (suc n) (x ∷ xs) e = every_of-drop n xs (and_true (f x) (every_of f xs) e).1

  -- a weaker test holds too
  pub every_of_weaker : (g : ℕ → Bool) → ((x : ℕ) → f x ≡ true → g x ≡ true) → (l : List ℕ) → every_of f l ≡ true → every_of g l ≡ true
  unfolding every_of
  every_of_weaker g w [] e = refl
  every_of_weaker g w (x ∷ xs) e =
      let t = and_true (f x) (every_of f xs) e in both (g x) (every_of g xs) (w x t.0) (every_of_weaker g w xs t.1)

-- ---- total

pub total_step : (xs : List ℕ) (i : ℕ) → i < length xs → total (drop i xs) ≡ get_or xs i 0 + total (drop (i + 1) xs)
unfolding total
total_step xs i h = rw (add-one, drop-cons xs i 0)

pub total_end : (xs : List ℕ) (i : ℕ) → length xs ≤ i → total (drop i xs) ≡ 0
unfolding total
total_end xs i h = rw drop_of_length-le
