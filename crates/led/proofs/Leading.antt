-- Records that lead from one round to another, put together.
-- Assumes nothing.
use Prim.Native.Nat.{ℕ, zero, suc, ◌+◌, ◌<◌}
use mathlib.Core.Path.{◌≡◌, subst, ◌∙◌}
use mathlib.Core.Bool.{true}
use mathlib.Core.List.{List, [], ◌∷◌, ◌++◌}
use native.Mathlib.Omega.{arith}
use native.Mathlib.Numerals.{add-one}
use Rattle.records.specs.Bytes.{are_bytes}
use Rattle.round.specs.declared.Round.{Round}
use Rattle.round.specs.Feed.{refusal, next}
use Rattle.round.proofs.Numbers.{feed-next}
use Rattle.led.specs.Led.{Leads}
use Rattle.led.specs.Led.Leads.{done, then}
use Rattle.counting.specs.Count.{gather}
use Rattle.led.proofs.Took.{none_taken}

pub join : {r q s : Round} {l m : List (List ℕ)} → Leads r l q → Leads q m s → Leads r (l ++ m) s
join done n = n
join (then b h a k) n = then b h a (join k n)

-- no record: the same round
pub stay : {r s : Round} → r ≡ s → Leads r [] s
stay {r} e = subst (λ (x : Round). Leads r [] x) e done

-- one record that has no refusal
pub one : (r s : Round) (b : List ℕ) → are_bytes b ≡ true → refusal r b ≡ 0 → next r b ≡ s → Leads r (b ∷ []) s
one r s b h e n = then b h (none_taken r b e) (stay (feed-next r b e ∙ n))

-- place by place
pub places : (at : ℕ → Round) (f : ℕ → List (List ℕ)) (n : ℕ) → ((i : ℕ) → i < n → Leads (at i) (f i) (at (i + 1))) → Leads (at 0) (gather n f) (at n)
unfolding gather
places at f zero h = done
places at f (suc n) h =
    join (places at f n (λ i l. h i (omega arith)))
    (subst (λ (m : ℕ). Leads (at n) (f n) (at m)) (add-one n) (h n (omega arith)))
