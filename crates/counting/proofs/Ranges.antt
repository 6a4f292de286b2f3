-- Laws of tests over the numbers below n: what a loop that counts i up to n cites, and what a test that holds or fails says
-- of each number.
-- Assumes nothing.
use Prim.Native.Nat.{ℕ, zero, suc, ◌+◌, ◌≤◌, ◌<◌}
use mathlib.Core.Path.{◌≡◌, refl, ap, sym, subst, ◌∙◌}
use mathlib.Core.Bool.{Bool, true, false, ◌||◌}
use native.Mathlib.Numerals.{add-one}
use native.Mathlib.Omega.{arith}
use lib.Dec.{eqb}
use borrow.Author.Tests.{eqb-true, eqb-false}
use Rattle.counting.specs.Choose.{one}
use Rattle.counting.specs.Count.{tally, every_below, some_below}
use Rattle.counting.proofs.Tests.{clash, and_true, or_false, one_le}

-- what holds at n and below n holds below suc n
pub below_suc : (P : ℕ → Type 0) (n k : ℕ) → k < suc n → P n → (k < n → P k) → P k
below_suc P n k h last rest = go (eqb k n) refl
  where
    go : (b : Bool) → eqb k n ≡ b → P k
    go true e = subst P (sym (eqb-true k n e)) last
    go false e = let d : (k ≡ n → ⊥) = eqb-false k n e in rest (omega arith)

-- ---- every

pub every_none : (f : ℕ → Bool) → every_below 0 f ≡ true
unfolding every_below
every_none f = refl

pub every_more : (f : ℕ → Bool) (i : ℕ) → every_below i f ≡ true → f i ≡ true → every_below (i + 1) f ≡ true
unfolding every_below
every_more f i e t = rw (add-one, t) e

pub every_done : (f : ℕ → Bool) (n i : ℕ) → every_below i f ≡ true → i ≤ n → n ≤ i → every_below n f ≡ true
every_done f n i e p q = let same : i ≡ n = omega arith in rw (← same) e

pub every_at : (f : ℕ → Bool) (n : ℕ) → every_below n f ≡ true → (k : ℕ) → k < n → f k ≡ true
unfolding every_below
every_at f zero e k h = absurd (omega arith)
every_at f (suc n) e k h =
    let both = and_true (f n) (every_below n f) e in below_suc (λ i. f i ≡ true) n k h both.0 (every_at f n both.1 k)

pub every_broken : (f : ℕ → Bool) (n k : ℕ) → k < n → f k ≡ false → every_below n f ≡ false
every_broken f n k h e = go (every_below n f) refl
  where
    go : (b : Bool) → every_below n f ≡ b → b ≡ false
    go true q = clash (f k) (every_at f n q k h) e
    go false q = refl

-- where a test holds at each number below n
pub every_of_lem : (f : ℕ → Bool) (n : ℕ) → ((k : ℕ) → k < n → f k ≡ true) → every_below n f ≡ true
unfolding every_below
every_of_lem f zero h = refl
every_of_lem f (suc n) h = rw (h n (omega arith)) (every_of_lem f n (λ k p. h k (omega arith)))

-- ---- some

pub some_none : (f : ℕ → Bool) → some_below 0 f ≡ false
unfolding some_below
some_none f = refl

pub some_more : (f : ℕ → Bool) (i : ℕ) → some_below i f ≡ false → f i ≡ false → some_below (i + 1) f ≡ false
unfolding some_below
some_more f i e t = rw (add-one, t) e

pub some_done : (f : ℕ → Bool) (n i : ℕ) → some_below i f ≡ false → i ≤ n → n ≤ i → some_below n f ≡ false
some_done f n i e p q = let same : i ≡ n = omega arith in rw (← same) e

pub none_at : (f : ℕ → Bool) (n : ℕ) → some_below n f ≡ false → (k : ℕ) → k < n → f k ≡ false
unfolding some_below
none_at f zero e k h = absurd (omega arith)
none_at f (suc n) e k h =
    let both = or_false (f n) (some_below n f) e in below_suc (λ i. f i ≡ false) n k h both.0 (none_at f n both.1 k)

pub some_here : (f : ℕ → Bool) (n k : ℕ) → k < n → f k ≡ true → some_below n f ≡ true
some_here f n k h e = go (some_below n f) refl
  where
    go : (b : Bool) → some_below n f ≡ b → b ≡ true
    go true q = refl
    go false q = clash (f k) e (none_at f n q k h)

pub some_where : (f : ℕ → Bool) (n : ℕ) → some_below n f ≡ true → (k : ℕ) × (k < n) × (f k ≡ true)
unfolding some_below
some_where f zero e = clash false e refl
some_where f (suc n) e = go (f n) refl e (some_where f n)
  where
    go : (b : Bool) → f n ≡ b → (b || some_below n f) ≡ true → (some_below n f ≡ true → (k : ℕ) × (k < n) × (f k ≡ true)) → (k : ℕ) × (k < suc n) × (f k ≡ true)
    go true q t rest = (n, omega arith, q)
    go false q t rest = let r = rest t in (r.0, omega arith, r.2)

-- where a test fails at each number below n, none passes it
pub none_of : (f : ℕ → Bool) (n : ℕ) → ((k : ℕ) → k < n → f k ≡ false) → some_below n f ≡ false
unfolding some_below
none_of f zero h = refl
none_of f (suc n) h = rw (h n (omega arith)) (none_of f n (λ k p. h k (omega arith)))

-- ---- tally: a loop at i that has found k

abbrev pub Tallied : ℕ → (ℕ → Bool) → ℕ → ℕ → Type 0
Tallied n f k i = (i ≤ n) × (k ≤ i) × (k ≡ tally i f)

pub tally-none : (n : ℕ) (f : ℕ → Bool) → Tallied n f 0 0
unfolding tally
tally-none n f = (omega arith, omega arith, refl)

pub tally_step : (f : ℕ → Bool) (i : ℕ) → tally (i + 1) f ≡ one (f i) + tally i f
unfolding tally
tally_step f i = rw add-one

pub tally_hit : (n : ℕ) (f : ℕ → Bool) (k i : ℕ) → Tallied n f k i → i < n → f i ≡ true → Tallied n f (k + 1) (i + 1)
tally_hit n f k i v h t = omega (arith, tally_step f i, ap one t)

pub tally_miss : (n : ℕ) (f : ℕ → Bool) (k i : ℕ) → Tallied n f k i → i < n → f i ≡ false → Tallied n f k (i + 1)
tally_miss n f k i v h t = omega (arith, tally_step f i, ap one t)

pub tally-done : (n : ℕ) (f : ℕ → Bool) (k i : ℕ) → Tallied n f k i → n ≤ i → k ≡ tally n f
tally-done n f k i v h = let e : i ≡ n = omega arith in rw (← e) v.2

pub tally_le : (n : ℕ) (f : ℕ → Bool) → tally n f ≤ n
unfolding tally
tally_le zero f = omega arith
tally_le (suc n) f = omega (arith, tally_le n f, one_le (f n))

pub tally_same : (n : ℕ) (f g : ℕ → Bool) → ((k : ℕ) → k < n → f k ≡ g k) → tally n f ≡ tally n g
unfolding tally
tally_same zero f g e = refl
tally_same (suc n) f g e = omega (arith, ap one (e n (omega arith)), tally_same n f g (λ k h. e k (omega arith)))

-- two tests that differ at j alone
pub tally_one_more : (n j : ℕ) (f g : ℕ → Bool) → j < n → f j ≡ false → g j ≡ true → ((k : ℕ) → (k ≡ j → ⊥) → f k ≡ g k) → tally n g ≡ tally n f + 1
unfolding tally
tally_one_more zero j f g h p q e = absurd (omega arith)
tally_one_more (suc n) j f g h p q e = go (eqb j n) refl (tally_one_more n j f g)
  where
    go : (t : Bool) → eqb j n ≡ t → (j < n → f j ≡ false → g j ≡ true → ((k : ℕ) → (k ≡ j → ⊥) → f k ≡ g k) → tally n g ≡ tally n f + 1)
        → one (g n) + tally n g ≡ one (f n) + tally n f + 1
    go true i rest =
        let same : j ≡ n = eqb-true j n i in
        let below = tally_same n f g (λ k l. e k (λ z. omega arith)) in
        omega (arith, ap one (ap f (sym same) ∙ p), ap one (ap g (sym same) ∙ q), below)
    go false i rest =
        let other : (j ≡ n → ⊥) = eqb-false j n i in
        omega (arith, ap one (e n (λ z. other (sym z))), rest (omega arith) p q e)
