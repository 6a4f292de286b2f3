-- A number in decimal is the library's: that is what its digits are put by.
-- Assumes nothing.
use Rattle.std.proofs.Common.{◌≡◌, ℕ, zero, suc, ◌+◌, ◌/◌, ◌%◌, ◌^◌, ◌<◌, ◌≤◌, List, [], ◌∷◌, refl, sym, ap, ◌∙◌, arith}
use mathlib.Core.List.{append-nil}
use borrow.Author.Tests.{ne_eqb}
use Rattle.std.specs.Fmt.{decimal as text_of}
use Rattle.std.proofs.lemmas.Fmt.{PrependsLastDigit, decimal_from_prepends, length-decimal-le}
use Rattle.text.specs.Text.{digits_then, decimal}

-- at most k digits in front of others: the last one, and in front of it those of the rest
last_then : ℕ → ℕ → List ℕ → List ℕ
last_then zero n cs = cs
last_then (suc k) n cs = digits_then k (n / 10) ((48 + n % 10) ∷ cs)

prepends : PrependsLastDigit last_then
unfolding last_then digits_then
prepends = record { one = one; more = more }
  where
    one : (k n : ℕ) (cs : List ℕ) → n < 10 → digits_then k (n / 10) ((48 + n % 10) ∷ cs) ≡ (48 + n) ∷ cs
    one zero n cs h = ap (λ (d : ℕ). (48 + d) ∷ cs) (omega arith)
    one (suc k) n cs h =
        let none : n / 10 ≡ 0 = omega arith in
        rw none (ap (λ (d : ℕ). (48 + d) ∷ cs) (omega arith))

    more : (k n : ℕ) (cs : List ℕ) → 10 ≤ n → digits_then k (n / 10) ((48 + n % 10) ∷ cs) ≡ last_then k (n / 10) ((48 + n % 10) ∷ cs)
    more zero n cs h = refl
    more (suc k) n cs h = let some : n / 10 ≡ 0 → ⊥ = (λ e. omega arith) in rw (ne_eqb (n / 10) 0 some) refl

pub decimal_is : (n : ℕ) → n < 2 ^ 64 → text_of n ≡ decimal n
unfolding decimal last_then
decimal_is n h = sym (decimal_from_prepends last_then prepends 20 n [] h (length-decimal-le 20 n (omega arith) (omega arith) h) ∙ append-nil (text_of n))
