-- Who passes a test where more than m do; a sum of which at most two numbers are above 0; the total of a list, and each number of it.
-- Assumes nothing.
use Prim.Native.Nat.{ℕ, zero, suc, ◌+◌, ◌*◌, ◌≤◌, ◌<◌}
use mathlib.Core.Path.{◌≡◌, refl, sym, ap, ◌∙◌}
use mathlib.Core.Bool.{Bool, true, false}
use mathlib.Core.List.{List, [], ◌∷◌}
use native.Mathlib.Nat.{add-mul, mul-add}
use native.Mathlib.Omega.{arith}
use lib.Dec.{eqb}
use lib.ListN.{length, get_or}
use borrow.Author.Tests.{eqb-true, eqb-false}
use Rattle.counting.specs.Choose.{one}
use Rattle.counting.specs.Count.{tally, sum_below, count, every_of, total, gather, each}
use Rattle.counting.proofs.Tests.{both}
use Rattle.counting.proofs.Ranges.{below_suc}
use Rattle.counting.proofs.Lists.{every_of_both}
use Rattle.counting.proofs.Sums.{on_its_heap}
use Rattle.counting.proofs.Gathers.{each_of, each-total}

-- ---- how many pass

module _ (f : ℕ → Bool) where
  -- more than m pass: one that does, with m before it
  pub tally_more : (n m : ℕ) → m < tally n f → (k : ℕ) × (k < n) × (f k ≡ true) × (m ≤ tally k f)
  unfolding tally
  tally_more zero m h = absurd (omega arith)
  tally_more (suc n) m h = go (f n) refl (tally_more n m)
    where
      go : (b : Bool) → f n ≡ b → (m < tally n f → (k : ℕ) × (k < n) × (f k ≡ true) × (m ≤ tally k f)) → (k : ℕ) × (k < suc n) × (f k ≡ true) × (m ≤ tally k f)
      go true e rest = (n, omega arith, e, omega (arith, ap one e))
      go false e rest = let r = rest (omega (arith, ap one e)) in (r.0, omega arith, r.2, r.3)

  -- one that passes is counted from there on
  pub tally_lt : (n k : ℕ) → k < n → f k ≡ true → tally k f < tally n f
  unfolding tally
  tally_lt zero k h e = absurd (omega arith)
  tally_lt (suc n) k h e =
      below_suc (λ i. f i ≡ true → tally i f < one (f n) + tally n f) n k h
      (λ q. omega (arith, ap one q)) (λ l q. omega (arith, tally_lt n k l q)) e

-- the first apart from the others
pub tally_front : (n : ℕ) (f : ℕ → Bool) → tally (suc n) f ≡ one (f 0) + tally n (λ k. f (suc k))
unfolding tally
tally_front zero f = refl
tally_front (suc n) f = omega (arith, tally_front n f)

-- as many of a list pass as places that have one that does
pub tally-count : (f : ℕ → Bool) (l : List ℕ) → tally (length l) (λ k. f (get_or l k 0)) ≡ count f l
unfolding tally count
tally-count f [] = refl
tally-count f (x ∷ l) = tally_front (length l) (λ k. f (get_or (x ∷ l) k 0)) ∙ ap (λ (n : ℕ). one (f x) + n) (tally-count f l)

-- where none passes from place n on
pub tally-cut : (n m : ℕ) (f : ℕ → Bool) → ((k : ℕ) → n ≤ k → k < m + n → f k ≡ false) → tally (m + n) f ≡ tally n f
unfolding tally
tally-cut n zero f none = let e : 0 + n ≡ n = omega arith in rw e
tally-cut n (suc m) f none =
    let e : suc m + n ≡ suc (m + n) = omega arith in
    rw e (omega (arith, ap one (none (m + n) (omega arith) (omega arith)), tally-cut n m f (λ k p q. none k p (omega arith))))

-- ---- sums

-- f is c times g at each place
pub sum_times : (c n : ℕ) (f g : ℕ → ℕ) → ((i : ℕ) → i < n → f i ≡ c * g i) → sum_below n f ≡ c * sum_below n g
unfolding sum_below
sum_times c zero f g e = omega arith
sum_times c (suc n) f g e = rw (mul-add c (g n) (sum_below n g)) (omega (arith, e n (omega arith), sum_times c n f g (λ i h. e i (omega arith))))

-- Numbers that are 0 where the test fails, and at most m but at k: at most two pass, so their sum is at most that at k, and m.
module _ (f : ℕ → Bool) (g : ℕ → ℕ) (m k : ℕ) where
  weighed : (n : ℕ) → ((i : ℕ) → i < n → g i + one (eqb k i) * m ≤ one (f i) * m + one (eqb k i) * g k)
      → sum_below n g + sum_below n (λ i. one (eqb k i)) * m ≤ tally n f * m + sum_below n (λ i. one (eqb k i)) * g k
  unfolding sum_below tally
  weighed zero h = omega arith
  weighed (suc n) h = simp add-mul (omega (arith, h n (omega arith), weighed n (λ i l. h i (omega arith))))

  pub sum-two : (n : ℕ) → k < n → tally n f ≤ 2 → f k ≡ true → ((i : ℕ) → f i ≡ false → g i ≡ 0)
      → ((i : ℕ) → i < n → f i ≡ true → (i ≡ k → ⊥) → g i ≤ m) → sum_below n g ≤ g k + m
  sum-two n h two here none most = twice (tally n f) two (rw (on_its_heap n k h) at (weighed n (λ i l. at i l (eqb k i) (f i) refl refl)))
    where
      at : (i : ℕ) → i < n → (a b : Bool) → eqb k i ≡ a → f i ≡ b → g i + one a * m ≤ one b * m + one a * g k
      at i l true true e p = omega (arith, ap g (eqb-true k i e))
      at i l true false e p = absurd (omega (arith, ap one (sym (ap f (eqb-true k i e) ∙ p) ∙ here)))
      at i l false true e p = let other : (k ≡ i → ⊥) = eqb-false k i e in omega (arith, most i l p (λ q. other (sym q)))
      at i l false false e p = omega (arith, none i p)

      twice : (c : ℕ) → c ≤ 2 → sum_below n g + 1 * m ≤ c * m + 1 * g k → sum_below n g ≤ g k + m
      twice zero l s = omega arith
      twice (suc zero) l s = omega arith
      twice (suc (suc zero)) l s = omega arith
      twice (suc (suc (suc c))) l s = absurd (omega arith)

-- ---- lists

-- no number of a list is above its total
pub total_at : (l : List ℕ) (k : ℕ) → get_or l k 0 ≤ total l
unfolding total
total_at [] k = omega arith
total_at (x ∷ l) zero = omega arith
total_at (x ∷ l) (suc k) = omega (arith, total_at l k)

-- a total is the sum of what stands at each place
pub total-sum : (l : List ℕ) (n : ℕ) → length l ≡ n → total l ≡ sum_below n (λ k. get_or l k 0)
total-sum l n long =
    ap total (each_of l n long) ∙ each-total (λ k. get_or l k 0) n

-- a test of each number of a list that is made place by place
pub every_each : (f : ℕ → Bool) (g : ℕ → ℕ) (n : ℕ) → ((k : ℕ) → k < n → f (g k) ≡ true) → every_of f (each n g) ≡ true
unfolding gather every_of
every_each f g zero h = refl
every_each f g (suc n) h =
    every_of_both f (each n g) (g n ∷ []) (every_each f g n (λ k l. h k (omega arith))) (both (f (g n)) true (h n (omega arith)) refl)
