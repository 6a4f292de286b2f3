-- The suits of some cards in one number, of which hexadecimal digit s is how often suit s occurs.
-- Assumes nothing.
use Prim.Native.Nat.{ℕ, ◌+◌, ◌*◌, ◌%◌, ◌/◌, ◌^◌, ◌≤◌}
use mathlib.Core.Path.{◌≡◌, refl, ap, ◌∙◌}
use mathlib.Core.Bool.{Bool, true, false, not, ◌||◌}
use mathlib.Core.List.{List, [], ◌∷◌, ◌++◌}
use native.Mathlib.Omega.{arith}
use lib.Bits.{bit_and}
use lib.Dec.{eqb}
use lib.ListN.{length}
use borrow.Author.Tests.{eqb-true}
use Rattle.counting.specs.Choose.{one}
use Rattle.counting.specs.Count.{count, every_below, some_below, sum_below}
use Rattle.counting.proofs.Lists.{count_both, count_most}
use Rattle.counting.proofs.Ranges.{every_at}
use Rattle.counting.proofs.Sums.{heaps_within}
use Rattle.counting.proofs.Tests.{same_true, one_true}
use Rattle.cards.specs.Card.{suit}
use Rattle.hands.specs.Hand.{of_suit, flush}
use Rattle.words.specs.Word.{digits}
use Rattle.words.proofs.Digits.{digits_same, digits_le, digits_add}

-- a suit's number is a power of 16: a test over the four
each-suit : every_below 4 (λ s. eqb (1 * 2 ^ (4 * s) % 65536) (digits 4 (λ r. one (eqb s r)))) ≡ true
unfolding every_below digits
each-suit = refl

pub suit_power : (c : ℕ) → 1 * 2 ^ (4 * suit c) % 65536 ≡ digits 4 (of_suit (c ∷ []))
unfolding of_suit count
suit_power c =
    eqb-true _ _ (every_at (λ s. eqb (1 * 2 ^ (4 * s) % 65536) (digits 4 (λ r. one (eqb s r)))) 4 each-suit (suit c) (omega arith))
    ∙ digits_same 4 (λ s. one (eqb (suit c) s)) (of_suit (c ∷ [])) (λ s l. omega arith)

-- the suits of some cards and others
pub suits_both : (cs ds : List ℕ) → digits 4 (of_suit (cs ++ ds)) ≡ digits 4 (of_suit cs) + digits 4 (of_suit ds)
unfolding of_suit
suits_both cs ds =
    digits_same 4 (of_suit (cs ++ ds)) (λ s. of_suit cs s + of_suit ds s) (λ s l. count_both (λ c. eqb (suit c) s) cs ds) ∙ digits_add 4 (of_suit cs) (of_suit ds)

pub few_suits : (cs : List ℕ) → sum_below 4 (of_suit cs) ≤ length cs
unfolding of_suit
few_suits cs = heaps_within suit 4 cs

-- no suit occurs more often than there are cards
pub suits-most : (cs : List ℕ) → digits 4 (of_suit cs) ≤ length cs * 0x1111
unfolding digits of_suit
suits-most cs = omega (arith, digits_le 4 (of_suit cs) (λ s. length cs) (λ s. count_most (λ c. eqb (suit c) s) cs))

-- ---- one suit

-- of digits up to 5 one is 5 where one with the bit 4 has the bit 1: a test of all such numbers
told : ℕ → ℕ → ℕ → ℕ → Bool
told a b c d =
    let w = ((d * 16 + c) * 16 + b) * 16 + a in
    eqb (one (not (eqb (bit_and (bit_and w 0x4444 / 4) w) 0))) (one (eqb d 5 || (eqb c 5 || (eqb b 5 || (eqb a 5 || false)))))

all_told : every_below 6 (λ a. every_below 6 (λ b. every_below 6 (λ c. every_below 6 (λ d. told a b c d)))) ≡ true
unfolding every_below told
all_told = refl

one_same : (a b : Bool) → one a ≡ one b → a ≡ b
one_same a b e = same_true a b (λ p. one_true b (omega (arith, e, ap one p))) (λ p. one_true a (omega (arith, e, ap one p)))

-- of at most five cards: all are of one suit
pub one_digit : (w : ℕ) (t : ℕ → ℕ) → w ≡ digits 4 t → sum_below 4 t ≤ 5 → not (eqb (bit_and (bit_and w 0x4444 / 4) w) 0) ≡ flush 5 t
unfolding flush some_below digits sum_below told
one_digit w t is few =
    let p = every_at (λ a. every_below 6 (λ b. every_below 6 (λ c. every_below 6 (λ d. told a b c d)))) 6 all_told (t 0) (omega (arith, few)) in
    let q = every_at (λ b. every_below 6 (λ c. every_below 6 (λ d. told (t 0) b c d))) 6 p (t 1) (omega (arith, few)) in
    let r = every_at (λ c. every_below 6 (λ d. told (t 0) (t 1) c d)) 6 q (t 2) (omega (arith, few)) in
    let s = every_at (λ d. told (t 0) (t 1) (t 2) d) 6 r (t 3) (omega (arith, few)) in
    let e : w ≡ ((t 3 * 16 + t 2) * 16 + t 1) * 16 + t 0 = omega (arith, is) in
    rw e (one_same _ _ (eqb-true _ _ s))
