-- Tests and sums over the numbers below n, and over the numbers of a list; lists made of what a function gives.
-- Assumes nothing.
use Rattle.std.specs.Prelude.{ℕ, zero, suc, ◌+◌, Bool, true, false, ◌&&◌, ◌||◌, List, [], ◌∷◌, ◌++◌, ltb, length, get_or}
use Rattle.counting.specs.Choose.{one}

-- how many of the numbers below n pass the test
unfoldable pub tally : ℕ → (ℕ → Bool) → ℕ
tally zero f = 0
tally (suc n) f = one (f n) + tally n f

-- each of the numbers below n passes the test
unfoldable pub every_below : ℕ → (ℕ → Bool) → Bool
every_below zero f = true
every_below (suc n) f = f n && every_below n f

-- some of the numbers below n passes the test
unfoldable pub some_below : ℕ → (ℕ → Bool) → Bool
some_below zero f = false
some_below (suc n) f = f n || some_below n f

-- the sum of what g gives at the numbers below n
unfoldable pub sum_below : ℕ → (ℕ → ℕ) → ℕ
sum_below zero g = 0
sum_below (suc n) g = g n + sum_below n g

-- how many of the list pass the test
unfoldable pub count : (ℕ → Bool) → List ℕ → ℕ
count f [] = 0
count f (x ∷ xs) = one (f x) + count f xs

-- how many numbers of the list are larger
unfoldable pub above : List ℕ → ℕ → ℕ
above numbers own = tally (length numbers) (λ j. ltb own (get_or numbers j 0))

-- each of the list passes the test
unfoldable pub every_of : (ℕ → Bool) → List ℕ → Bool
every_of f [] = true
every_of f (x ∷ xs) = f x && every_of f xs

-- the sum of the list
unfoldable pub total : List ℕ → ℕ
total [] = 0
total (x ∷ xs) = x + total xs

-- what f gives at the numbers below n, one list after the other
unfoldable pub gather : {A : Type 0} → ℕ → (ℕ → List A) → List A
gather zero f = []
gather (suc n) f = gather n f ++ f n

-- what g gives at the numbers below n, in their order
abbrev pub each : ℕ → (ℕ → ℕ) → List ℕ
each n g = gather n (λ k. g k ∷ [])
