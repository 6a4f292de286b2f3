-- Laws of hexadecimal digits: sums, bounds, `&` and `^` digit by digit, the digits from a place on and those below it, the sum of the digits, and
-- whether there is one that isn't 0.
-- Assumes nothing.
use Prim.Native.Nat.{ℕ, zero, suc, ◌+◌, ◌*◌, ◌%◌, ◌/◌, ◌^◌, ◌≤◌, ◌<◌}
use mathlib.Core.Path.{◌≡◌, refl, ap, ◌∙◌}
use mathlib.Core.Bool.{Bool, not}
use native.Mathlib.Nat.{mul_left_comm}
use native.Mathlib.Omega.{arith}
use lib.Bits.{bit_and, bit_xor, and_block, xor_block}
use lib.Dec.{eqb}
use lib.Pow.{pow-add, high, low}
use borrow.Author.Tests.{eqb-true, eq-eqb, not-false}
use Rattle.counting.specs.Choose.{one}
use Rattle.counting.specs.Count.{sum_below, some_below}
use Rattle.counting.proofs.Ranges.{none_at, none_of}
use Rattle.counting.proofs.Tests.{same_test, is_false}
use Rattle.words.specs.Word.{digits}

pub digits_same : (n : ℕ) (f g : ℕ → ℕ) → ((r : ℕ) → r < n → f r ≡ g r) → digits n f ≡ digits n g
unfolding digits
digits_same zero f g e = refl
digits_same (suc n) f g e =
    omega (arith, digits_same n (λ r. f (suc r)) (λ r. g (suc r)) (λ r h. e (suc r) (omega arith)), e 0 (omega arith))

pub digits_le : (n : ℕ) (f g : ℕ → ℕ) → ((r : ℕ) → f r ≤ g r) → digits n f ≤ digits n g
unfolding digits
digits_le zero f g e = omega arith
digits_le (suc n) f g e = omega (arith, digits_le n (λ r. f (suc r)) (λ r. g (suc r)) (λ r. e (suc r)), e 0)

pub digits_add : (n : ℕ) (f g : ℕ → ℕ) → digits n (λ r. f r + g r) ≡ digits n f + digits n g
unfolding digits
digits_add zero f g = refl
digits_add (suc n) f g = omega (arith, digits_add n (λ r. f (suc r)) (λ r. g (suc r)))

-- n digits, each below 16
abbrev pub Small : ℕ → (ℕ → ℕ) → Type 0
Small n g = (r : ℕ) → r < n → g r < 16

-- an operation on bits goes digit by digit
digits_op : (op : ℕ → ℕ → ℕ) → op 0 0 ≡ 0 → ((a b r s : ℕ) → r < 16 → s < 16 → op (a * 16 + r) (b * 16 + s) ≡ op a b * 16 + op r s)
    → (n : ℕ) (f g : ℕ → ℕ) → Small n f → Small n g → op (digits n f) (digits n g) ≡ digits n (λ r. op (f r) (g r))
unfolding digits
digits_op op none block zero f g p q = none
digits_op op none block (suc n) f g p q =
    block (digits n (λ r. f (suc r))) (digits n (λ r. g (suc r))) (f 0) (g 0) (p 0 (omega arith)) (q 0 (omega arith))
    ∙ ap (λ (x : ℕ). x * 16 + op (f 0) (g 0))
    (digits_op op none block n (λ r. f (suc r)) (λ r. g (suc r)) (λ r h. p (suc r) (omega arith)) (λ r h. q (suc r) (omega arith)))

pub digits_and : (n : ℕ) (f g : ℕ → ℕ) → Small n f → Small n g → bit_and (digits n f) (digits n g) ≡ digits n (λ r. bit_and (f r) (g r))
digits_and = digits_op bit_and refl (and_block 4)

pub digits_xor : (n : ℕ) (f g : ℕ → ℕ) → Small n f → Small n g → bit_xor (digits n f) (digits n g) ≡ digits n (λ r. bit_xor (f r) (g r))
digits_xor = digits_op bit_xor refl (xor_block 4)

-- ---- from a place on, and below it

-- a place further on is 16 times as much
further : (n x : ℕ) → x * 2 ^ (4 * suc n) ≡ 16 * (x * 2 ^ (4 * n))
further n x =
    let e : 4 * suc n ≡ 4 + 4 * n = omega arith in
    rw (e, pow-add 2 4 (4 * n)) (mul_left_comm x 16 (2 ^ (4 * n)))

digits_split : (n m : ℕ) (g : ℕ → ℕ) → digits (n + m) g ≡ digits m (λ r. g (n + r)) * 2 ^ (4 * n) + digits n g
unfolding digits
digits_split zero m g =
    let e : 0 + m ≡ m = omega arith in
    let same = digits_same m (λ r. g (0 + r)) g (λ r h. let z : 0 + r ≡ r = omega arith in ap g z) in
    rw e (omega (arith, same))
digits_split (suc n) m g =
    let e : suc n + m ≡ suc (n + m) = omega arith in
    let same = digits_same m (λ r. g (suc n + r)) (λ r. g (suc (n + r))) (λ r h. let z : suc n + r ≡ suc (n + r) = omega arith in ap g z) in
    let on = digits_split n m (λ r. g (suc r)) in
    rw (e, same) (omega (arith, on, further n (digits m (λ r. g (suc (n + r))))))

digits_lt : (n : ℕ) (g : ℕ → ℕ) → Small n g → digits n g < 2 ^ (4 * n)
unfolding digits
digits_lt zero g p = omega arith
digits_lt (suc n) g p = omega (arith, further n 1, digits_lt n (λ r. g (suc r)) (λ r h. p (suc r) (omega arith)), p 0 (omega arith))

module _ (n m : ℕ) (g : ℕ → ℕ) (small : Small n g) where
  pub digits_from : digits (n + m) g / 2 ^ (4 * n) ≡ digits m (λ r. g (n + r))
  digits_from = rw (digits_split n m g) (high (digits m (λ r. g (n + r))) (4 * n) (digits_lt n g small))

  pub digits_below : digits (n + m) g % 2 ^ (4 * n) ≡ digits n g
  digits_below = rw (digits_split n m g) (low (digits m (λ r. g (n + r))) (4 * n) (digits_lt n g small))

-- ---- sums, from the lowest on

sum_low : (n : ℕ) (g : ℕ → ℕ) → sum_below (suc n) g ≡ g 0 + sum_below n (λ r. g (suc r))
unfolding sum_below
sum_low zero g = refl
sum_low (suc n) g = omega (arith, sum_low n g)

pub digits_sum : (n : ℕ) (g : ℕ → ℕ) → digits n g % 15 ≡ sum_below n g % 15
unfolding digits sum_below
digits_sum zero g = refl
digits_sum (suc n) g = omega (arith, digits_sum n (λ r. g (suc r)), sum_low n g)

-- ---- no digit, and some

pub digits-none : (n : ℕ) (g : ℕ → ℕ) → ((r : ℕ) → r < n → g r ≡ 0) → digits n g ≡ 0
unfolding digits
digits-none zero g e = refl
digits-none (suc n) g e = omega (arith, digits-none n (λ r. g (suc r)) (λ r h. e (suc r) (omega arith)), e 0 (omega arith))

pub none_digit : (n : ℕ) (g : ℕ → ℕ) → digits n g ≡ 0 → (r : ℕ) → r < n → g r ≡ 0
unfolding digits
none_digit zero g e r h = absurd (omega arith)
none_digit (suc n) g e zero h = omega arith
none_digit (suc n) g e (suc r) h = none_digit n (λ r. g (suc r)) (omega arith) r (omega arith)

-- a number of digits 0 and 1 that isn't 0
pub some_digit : (n : ℕ) (f : ℕ → Bool) → not (eqb (digits n (λ r. one (f r))) 0) ≡ some_below n f
some_digit n f =
    same_test (not (eqb (digits n (λ r. one (f r))) 0)) (some_below n f)
    (λ e.
    let none = none_digit n (λ r. one (f r)) (eqb-true (digits n (λ r. one (f r))) 0 (not-false _ e)) in
    none_of f n (λ r h. is_false (f r) (λ t. omega (arith, none r h, ap one t))))
    (λ e.
    let none = digits-none n (λ r. one (f r)) (λ r h. ap one (none_at f n e r h)) in
    simp (eq-eqb (digits n (λ r. one (f r))) 0 none))

-- digits that end in zeros, from above
pub digits_short : (n m : ℕ) (g : ℕ → ℕ) → ((r : ℕ) → n ≤ r → g r ≡ 0) → digits (n + m) g ≡ digits n g
digits_short n m g e = rw (digits_split n m g, digits-none m (λ r. g (n + r)) (λ r h. e (n + r) (omega arith))) (omega arith)
