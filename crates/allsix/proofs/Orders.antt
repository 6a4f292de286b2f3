-- The order of the six cards plays no part in their name, nor in its refusal.
-- Assumes nothing.
use Prim.Native.Nat.{ℕ, zero, suc, ◌≤◌, ◌<◌}
use mathlib.Core.Path.{◌≡◌, sym, ap, ◌∙◌}
use mathlib.Core.List.{List}
use native.Mathlib.Omega.{arith}
use lib.ListN.{length}
use Rattle.counting.specs.Order.{Reordered}
use Rattle.counting.specs.Order.Reordered.{none, keep, swap, then}
use Rattle.counting.proofs.Orders.{same, back, reordered_length}
use Rattle.hands.specs.Hand.{hand_refusal}
use Rattle.hands.proofs.Refusals.{not_refused}
use Rattle.names.specs.Five.{name_five, five_place}
use Rattle.names.proofs.Answers.{answered_same}
use Rattle.names.proofs.Orders.{by_counts, refusal_reordered, five_reordered}
use Rattle.names.proofs.Places.{same_place}
use Rattle.allsix.specs.Six.{without, best_of_six, six_royal, name_six, answer_six}
use Rattle.allsix.proofs.Best.{best_is_best, best_is_one}

-- whatever card is left out of one, some card is left out of the other so that the rest are the same cards
others : {xs ys : List ℕ} → Reordered xs ys → (k : ℕ) → k < length xs → (j : ℕ) × (j < length ys) × Reordered (without k xs) (without j ys)
unfolding without
others none k h = absurd (omega arith)
others (keep p) zero h = (0, omega arith, p)
others (keep {x} {xs} {ys} p) (suc k) h = let r = others p k (omega arith) in (suc r.0, omega arith, keep r.2)
others (swap {x} {y} {xs}) zero h = (1, omega arith, same _)
others (swap {x} {y} {xs}) (suc zero) h = (0, omega arith, same _)
others (swap {x} {y} {xs}) (suc (suc k)) h = (suc (suc k), omega arith, swap)
others (then p q) k h =
    let r = others p k h in
    let s = others q r.0 r.1 in
    (s.0, s.1, then r.2 s.2)

as_high : {xs ys : List ℕ} → Reordered xs ys → length xs ≡ 6 → five_place (best_of_six xs) ≤ five_place (best_of_six ys)
as_high {xs} {ys} p long =
    let b = best_is_one ys in
    let o = others (back p) b.0 (omega (arith, b.1, reordered_length p)) in
    let e : best_of_six ys ≡ name_five (without o.0 xs) = b.2 ∙ five_reordered o.2 in
    omega (arith, ap five_place e, best_is_best xs o.0 (omega (arith, o.1)))

module _ {xs ys : List ℕ} (other : Reordered xs ys) where
  best_reordered : length xs ≡ 6 → best_of_six xs ≡ best_of_six ys
  best_reordered long =
      let a = as_high other long in
      let b = as_high (back other) (sym (reordered_length other) ∙ long) in
      same_place _ _ (omega arith)

  pub six_reordered : length xs ≡ 6 → name_six xs ≡ name_six ys
  unfolding name_six six_royal
  six_reordered long = rw (by_counts other (λ h t. h), by_counts other (λ h t. t), best_reordered long)

  -- of any lists: where they aren't six cards, both are refused
  pub answer_six_reordered : answer_six xs ≡ answer_six ys
  unfolding answer_six
  answer_six_reordered =
      let refusal = refusal_reordered other 6 in
      rw refusal (answered_same (hand_refusal 6 ys) (λ none. six_reordered (not_refused 6 xs (refusal ∙ none)).0))
