-- Words of ranks that all differ.
-- Assumes nothing.
use Prim.Native.Nat.{ℕ, zero, suc, ◌+◌, ◌≤◌, ◌<◌}
use mathlib.Core.Path.{◌≡◌, refl, sym, ap, ◌∙◌}
use mathlib.Core.Bool.{Bool, true, false, ◌&&◌}
use native.Mathlib.Omega.{arith}
use lib.Bits.{bit_and}
use lib.Dec.{eqb, ltb}
use borrow.Author.Tests.{eqb-true, eq-eqb, ne_eqb, lt-ltb, ltb-true}
use Rattle.counting.specs.Choose.{one}
use Rattle.counting.specs.Count.{sum_below}
use Rattle.counting.proofs.Ranges.{every_at, every_of_lem}
use Rattle.counting.proofs.Sums.{squeezed, sum_same, sum-none, tally-sum}
use Rattle.counting.proofs.Tests.{and_true, both, same_true, one_le}
use Rattle.hands.specs.Hand.{kinds}
use Rattle.words.specs.Word.{digits, Has, apart}
use Rattle.words.proofs.Digits.{digits-none, none_digit}
use Rattle.words.proofs.Planes.{up_to_5, most, masked, kinds-sum}

module _ (h : ℕ → ℕ) where
  pub apart_at : apart h ≡ true → (r : ℕ) → r < 13 → h r < 2
  unfolding apart
  apart_at e r l = ltb-true (h r) 2 (every_at (λ i. ltb (h i) 2) 13 e r l)

  pub at_apart : ((r : ℕ) → r < 13 → h r < 2) → apart h ≡ true
  unfolding apart
  at_apart e = every_of_lem (λ i. ltb (h i) 2) 13 (λ r l. lt-ltb (h r) 2 (e r l))

  -- where ranks differ, none occurs twice or more, of all or of some
  pub none_of_a_kind : (k lo n : ℕ) → 2 ≤ k → lo + n ≤ 13 → apart h ≡ true → kinds k lo n h ≡ 0
  unfolding kinds
  none_of_a_kind k lo n l room t =
      tally-sum n (λ i. eqb (h (lo + i)) k)
      ∙ sum-none n (λ i. one (eqb (h (lo + i)) k)) λ i p.
      let a = apart_at t (lo + i) (omega arith) in
      ap one (ne_eqb (h (lo + i)) k (λ e. omega (arith, e, a)))

-- ---- a rank that occurs once

pub once_le : (v : ℕ) → one (eqb v 1) ≤ v
once_le v = go (eqb v 1) refl
  where
    go : (b : Bool) → eqb v 1 ≡ b → one b ≤ v
    go true e = omega (arith, eqb-true v 1 e)
    go false e = omega arith

once_apart : (v : ℕ) → v < 2 → one (eqb v 1) ≡ v
once_apart zero l = refl
once_apart (suc zero) l = refl
once_apart (suc (suc v)) l = absurd (omega arith)

-- ---- the two upper bits of a digit

none_left : (v : ℕ) → v ≤ 5 → bit_and v 6 ≡ 0 → v < 2
none_left =
    up_to_5 (λ v. bit_and v 6 ≡ 0 → v < 2) (λ e. omega arith) (λ e. omega arith) (λ e. absurd (omega arith)) (λ e. absurd (omega arith))
    (λ e. absurd (omega arith)) (λ e. absurd (omega arith))

none_there : (v : ℕ) → v < 2 → bit_and v 6 ≡ 0
none_there zero l = refl
none_there (suc zero) l = refl
none_there (suc (suc v)) l = absurd (omega arith)

module _ (w : ℕ) (h : ℕ → ℕ) (has : Has 5 w h) where
  pub is_apart : eqb (bit_and w 0x6666666666666) 0 ≡ apart h
  unfolding digits
  is_apart =
      let e = masked w h has 0x6666666666666 6 refl (omega arith) in
      same_true (eqb (bit_and w 0x6666666666666) 0) (apart h)
      (λ t.
      let none = none_digit 13 (λ r. bit_and (h r) 6) (sym e ∙ eqb-true (bit_and w 0x6666666666666) 0 t) in
      at_apart h (λ r l. none_left (h r) (most w h has r l) (none r l)))
      (λ t. eq-eqb (bit_and w 0x6666666666666) 0 (e ∙ digits-none 13 (λ r. bit_and (h r) 6) (λ r l. none_there (h r) (apart_at h t r l))))

-- five cards whose ranks all differ: none occurs twice, and five are counted
pub five-apart : (h : ℕ → ℕ) → sum_below 13 h ≤ 5 → (apart h && eqb (sum_below 13 h) 5) ≡ eqb (kinds 1 0 13 h) 5
five-apart h few =
    let ones = kinds-sum h 1 in
    same_true (apart h && eqb (sum_below 13 h) 5) (eqb (kinds 1 0 13 h) 5)
    (λ t.
    let p = and_true (apart h) (eqb (sum_below 13 h) 5) t in
    let same = sum_same 13 (λ r. one (eqb (h r) 1)) h (λ r l. once_apart (h r) (apart_at h p.0 r l)) in
    eq-eqb (kinds 1 0 13 h) 5 (omega (arith, ones, eqb-true (sum_below 13 h) 5 p.1, same)))
    (λ t.
    let five = eqb-true (kinds 1 0 13 h) 5 t in
    let same = squeezed 13 (λ r. one (eqb (h r) 1)) h (λ r l. once_le (h r)) (omega (arith, ones, five)) in
    both (apart h) (eqb (sum_below 13 h) 5)
    (at_apart h (λ r l. let s = same r l in let m = one_le (eqb (h r) 1) in omega arith))
    (eq-eqb (sum_below 13 h) 5 (omega (arith, ones, five, sum_same 13 (λ r. one (eqb (h r) 1)) h same))))
