-- A jack, a queen or a king of two cards.
-- Assumes nothing.
use Prim.Native.Nat.{ℕ, zero, suc, ◌%◌, ◌/◌, ◌≤◌}
use mathlib.Core.Path.{◌≡◌, refl, ap, ◌∙◌}
use native.Mathlib.Omega.{arith}
use lib.Bits.{bit_and}
use lib.Dec.{eqb}
use Rattle.counting.specs.Choose.{one}
use Rattle.counting.proofs.Sums.{sum_at}
use Rattle.hands.specs.Hand.{kinds}
use Rattle.words.specs.Word.{digits, those, Has}
use Rattle.words.proofs.Digits.{digits_same}
use Rattle.words.proofs.Planes.{masked, part_count}

odd : (v : ℕ) → v ≤ 2 → bit_and v 1 ≡ one (eqb v 1)
odd zero h = refl
odd (suc zero) h = refl
odd (suc (suc zero)) h = refl
odd (suc (suc (suc v))) h = absurd (omega arith)

module _ (w : ℕ) (h : ℕ → ℕ) (has : Has 2 w h) where
  ones : bit_and w 0x1111111111111 ≡ those 1 h
  unfolding digits
  ones =
      masked w h (has.0, omega (arith, has.1)) 0x1111111111111 1 refl (omega arith)
      ∙ digits_same 13 (λ r. bit_and (h r) 1) (λ r. one (eqb (h r) 1)) (λ r l. odd (h r) (omega (arith, sum_at 13 h r l, has.1)))

  pub face : eqb (bit_and w 0x1111111111111 / 0x1000000000 % 0x1000 % 15) 1 ≡ eqb (kinds 1 9 3 h) 1
  face = ap (λ (x : ℕ). eqb (x / 0x1000000000 % 0x1000 % 15) 1) ones ∙ ap (λ (x : ℕ). eqb x 1) (part_count h 1 9 3 1 (omega arith))
