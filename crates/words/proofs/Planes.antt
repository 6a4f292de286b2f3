-- Which ranks occur twice, three or four times, by masks, and how many those are. A digit is at most 5, so that what a mask leaves of it is a
-- matter of six cases.
-- Assumes nothing.
use Prim.Native.Nat.{ℕ, zero, suc, ◌+◌, ◌*◌, ◌%◌, ◌/◌, ◌^◌, ◌≤◌, ◌<◌}
use mathlib.Core.Path.{◌≡◌, refl, ap, ap₂, ◌∙◌}
use mathlib.Core.Bool.{Bool, true, false, not}
use native.Mathlib.Nat.{mul-add, mul_assoc, mul-div_cancel_left}
use native.Mathlib.Omega.{arith}
use lib.Bits.{bit_and, bit_xor}
use lib.Dec.{eqb}
use borrow.Author.Tests.{eqb-true, eq-eqb, ne_eqb}
use Rattle.counting.specs.Choose.{one}
use Rattle.counting.specs.Count.{sum_below}
use Rattle.counting.proofs.Ranges.{tally_same, tally_le}
use Rattle.counting.proofs.Sums.{sum_at, sum_le, tally-sum}
use Rattle.counting.proofs.Tallies.{sum_times}
use Rattle.counting.proofs.Tests.{one_le}
use Rattle.hands.specs.Hand.{kinds}
use Rattle.words.specs.Word.{digits, those, Has}
use Rattle.words.proofs.Digits.{Small, digits_same, digits_and, digits_xor, digits_from, digits_below, digits_sum, digits-none}

-- ---- a digit

pub up_to_5 : (P : ℕ → Type 0) → P 0 → P 1 → P 2 → P 3 → P 4 → P 5 → (v : ℕ) → v ≤ 5 → P v
up_to_5 P a b c d e f zero h = a
up_to_5 P a b c d e f (suc zero) h = b
up_to_5 P a b c d e f (suc (suc zero)) h = c
up_to_5 P a b c d e f (suc (suc (suc zero))) h = d
up_to_5 P a b c d e f (suc (suc (suc (suc zero)))) h = e
up_to_5 P a b c d e f (suc (suc (suc (suc (suc zero))))) h = f
up_to_5 P a b c d e f (suc (suc (suc (suc (suc (suc v)))))) h = absurd (omega arith)

-- 1 for the number a and the number above it: a bit of a digit, as a digit
pair : ℕ → ℕ → ℕ
pair a v = one (eqb v a) + one (eqb v (suc a))

middle_bit : (v : ℕ) → v ≤ 5 → bit_and v 2 ≡ 2 * pair 2 v
unfolding pair
middle_bit = up_to_5 (λ v. bit_and v 2 ≡ 2 * pair 2 v) refl refl refl refl refl refl

high_bit : (v : ℕ) → v ≤ 5 → bit_and v 4 ≡ 4 * pair 4 v
unfolding pair
high_bit = up_to_5 (λ v. bit_and v 4 ≡ 4 * pair 4 v) refl refl refl refl refl refl

-- of the two, the odd one and the even one
odd_2 : (v : ℕ) → v ≤ 5 → bit_and (pair 2 v) v ≡ one (eqb v 3)
unfolding pair
odd_2 = up_to_5 (λ v. bit_and (pair 2 v) v ≡ one (eqb v 3)) refl refl refl refl refl refl

even_2 : (v : ℕ) → v ≤ 5 → bit_and (pair 2 v) (bit_xor v 1) ≡ one (eqb v 2)
unfolding pair
even_2 = up_to_5 (λ v. bit_and (pair 2 v) (bit_xor v 1) ≡ one (eqb v 2)) refl refl refl refl refl refl

even_4 : (v : ℕ) → v ≤ 5 → bit_and (pair 4 v) (bit_xor v 1) ≡ one (eqb v 4)
unfolding pair
even_4 = up_to_5 (λ v. bit_and (pair 4 v) (bit_xor v 1) ≡ one (eqb v 4)) refl refl refl refl refl refl

flip_small : (v : ℕ) → v ≤ 5 → bit_xor v 1 < 16
flip_small = up_to_5 (λ v. bit_xor v 1 < 16) (omega arith) (omega arith) (omega arith) (omega arith) (omega arith) (omega arith)

-- ---- all digits of a word

digits_times : (n b : ℕ) (g : ℕ → ℕ) → digits n (λ r. b * g r) ≡ b * digits n g
unfolding digits
digits_times zero b g = omega arith
digits_times (suc n) b g =
    rw (digits_times n b (λ r. g (suc r)), mul-add b (digits n (λ r. g (suc r)) * 16) (g 0), mul_assoc b (digits n (λ r. g (suc r))) 16)

module _ (w : ℕ) (h : ℕ → ℕ) (has : Has 5 w h) where
  pub most : (r : ℕ) → r < 13 → h r ≤ 5
  most r l = omega (arith, sum_at 13 h r l, has.1)

  pub small : Small 13 h
  small r l = omega (arith, most r l)

  -- the mask m of thirteen digits b
  pub masked : (m b : ℕ) → m ≡ digits 13 (λ r. b) → b < 16 → bit_and w m ≡ digits 13 (λ r. bit_and (h r) b)
  masked m b e l = ap₂ bit_and has.0 e ∙ digits_and 13 h (λ r. b) small (λ r i. l)

  -- the lowest bit of each digit turned
  flipped : bit_xor w 0x1111111111111 ≡ digits 13 (λ r. bit_xor (h r) 1)
  unfolding digits
  flipped = ap (λ (x : ℕ). bit_xor x 0x1111111111111) has.0 ∙ digits_xor 13 h (λ r. 1) small (λ r i. omega arith)

  -- Where b is a bit that the numbers a and a + 1 have: the ranks that occur so often, and of these the ones that x leaves, digit by digit.
  module _ (m a b : ℕ) (mask : m ≡ digits 13 (λ r. b)) (some : 0 < b) (low : b < 16) (bit : (v : ℕ) → v ≤ 5 → bit_and v b ≡ b * pair a v)
      (x k : ℕ) (f : ℕ → ℕ) (is : x ≡ digits 13 (λ r. f (h r))) (small-f : (v : ℕ) → v ≤ 5 → f v < 16)
      (left : (v : ℕ) → v ≤ 5 → bit_and (pair a v) (f v) ≡ one (eqb v k)) where
    plane : bit_and w m / b ≡ digits 13 (λ r. pair a (h r))
    plane =
        let all = masked m b mask low
        ∙ digits_same 13 (λ r. bit_and (h r) b) (λ r. b * pair a (h r)) (λ r l. bit (h r) (most r l))
        ∙ digits_times 13 b (λ r. pair a (h r)) in
        rw all (mul-div_cancel_left (digits 13 (λ r. pair a (h r))) some)

    pair_small : Small 13 (λ r. pair a (h r))
    unfolding pair
    pair_small r l = omega (arith, one_le (eqb (h r) a), one_le (eqb (h r) (suc a)))

    chosen : bit_and (bit_and w m / b) x ≡ those k h
    chosen =
        ap₂ bit_and plane is
        ∙ digits_and 13 (λ r. pair a (h r)) (λ r. f (h r)) pair_small (λ r l. small-f (h r) (most r l))
        ∙ digits_same 13 (λ r. bit_and (pair a (h r)) (f (h r))) (λ r. one (eqb (h r) k)) (λ r l. left (h r) (most r l))

  pub threes : bit_and (bit_and w 0x2222222222222 / 2) w ≡ those 3 h
  unfolding digits
  threes = chosen 0x2222222222222 2 2 refl (omega arith) (omega arith) middle_bit w 3 (λ v. v) has.0 (λ v l. omega arith) odd_2

  pub twos : bit_and (bit_and w 0x2222222222222 / 2) (bit_xor w 0x1111111111111) ≡ those 2 h
  unfolding digits
  twos = chosen 0x2222222222222 2 2 refl (omega arith) (omega arith) middle_bit (bit_xor w 0x1111111111111) 2 (λ v. bit_xor v 1) flipped flip_small even_2

  pub fours : bit_and (bit_and w 0x4444444444444 / 4) (bit_xor w 0x1111111111111) ≡ those 4 h
  unfolding digits
  fours = chosen 0x4444444444444 4 4 refl (omega arith) (omega arith) high_bit (bit_xor w 0x1111111111111) 4 (λ v. bit_xor v 1) flipped flip_small even_4

-- ---- how many

module _ (h : ℕ → ℕ) (k : ℕ) where
  abbrev is : ℕ → ℕ
  is r = one (eqb (h r) k)

  is_small : (n : ℕ) → Small n is
  is_small n r l = omega (arith, one_le (eqb (h r) k))

  -- the sum of the digits, since 16 leaves 1 by 15
  counted : (lo n : ℕ) → n ≤ 13 → digits n (λ r. is (lo + r)) % 15 ≡ kinds k lo n h
  unfolding kinds
  counted lo n few = omega (arith, digits_sum n (λ r. is (lo + r)), tally-sum n (λ i. eqb (h (lo + i)) k), tally_le n (λ i. eqb (h (lo + i)) k))

  -- of all ranks
  pub how_many : those k h % 15 ≡ kinds k 0 13 h
  how_many =
      let same = digits_same 13 is (λ r. is (0 + r)) (λ r l. let e : r ≡ 0 + r = omega arith in ap is e) in
      rw same (counted 0 13 (omega arith))

  -- of the n ranks from lo on
  pub part_count : (lo n m : ℕ) → lo + (n + m) ≡ 13 → those k h / 2 ^ (4 * lo) % 2 ^ (4 * n) % 15 ≡ kinds k lo n h
  part_count lo n m e =
      let from = digits_from lo (n + m) is (is_small lo) in
      let first = digits_below n m (λ r. is (lo + r)) (λ r l. is_small 13 (lo + r) (omega arith)) in
      rw (rw e at from, first) (counted lo n (omega arith))

  pub kinds-sum : kinds k 0 13 h ≡ sum_below 13 (λ r. one (eqb (h r) k))
  unfolding kinds
  kinds-sum =
      tally_same 13 (λ i. eqb (h (0 + i)) k) (λ i. eqb (h i) k) (λ i l. let e : 0 + i ≡ i = omega arith in ap (λ (j : ℕ). eqb (h j) k) e)
      ∙ tally-sum 13 (λ i. eqb (h i) k)

  -- Of five cards, a rank that occurs three times or more is the only one.
  pub only_one : 3 ≤ k → sum_below 13 h ≤ 5 → not (eqb (those k h) 0) ≡ eqb (kinds k 0 13 h) 1
  only_one three few = go (kinds k 0 13 h) refl
    where
      thrice : (r : ℕ) → 3 * is r ≤ h r
      thrice r = at (eqb (h r) k) refl
        where
          at : (b : Bool) → eqb (h r) k ≡ b → 3 * one b ≤ h r
          at true e = omega (arith, eqb-true (h r) k e)
          at false e = omega arith

      one_at_most : kinds k 0 13 h ≤ 1
      one_at_most = omega (arith, kinds-sum, sum_le 13 (λ r. 3 * is r) h (λ r l. thrice r), sum_times 3 13 (λ r. 3 * is r) is (λ r l. refl))

      go : (n : ℕ) → kinds k 0 13 h ≡ n → not (eqb (those k h) 0) ≡ eqb n 1
      go zero e = simp (eq-eqb (those k h) 0 (digits-none 13 is (λ r l. omega (arith, e, kinds-sum, sum_at 13 is r l))))
      go (suc zero) e = let some : (those k h ≡ 0 → ⊥) = λ z. omega (arith, how_many, ap (λ (x : ℕ). x % 15) z, e) in simp (ne_eqb (those k h) 0 some)
      go (suc (suc n)) e = absurd (omega (arith, e, one_at_most))
