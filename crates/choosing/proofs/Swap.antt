-- Two neighbouring choices of different seats on one street may be swapped: both are accepted, and lead to the same play.
-- Assumes nothing.
use Prim.Native.Nat.{ℕ, ◌+◌, ◌*◌, ◌<◌}
use mathlib.Core.Path.{◌≡◌, refl, sym, ap, ◌∙◌}
use mathlib.Core.Bool.{Bool, true, false}
use mathlib.Core.List.{List}
use native.Mathlib.Omega.{arith}
use lib.Dec.{eqb}
use lib.Seq.{get_or-set_other, set_comm}
use Rattle.std.specs.Prelude.{if◌then◌else◌}
use Rattle.records.specs.Bytes.{byte}
use Rattle.records.specs.Seats.{place}
use Rattle.choosing.specs.declared.Play.{Play}
use Rattle.choosing.specs.Streets.{raise_on, fold_of, streets_over}
use Rattle.choosing.specs.Choice.{choice_refusal, chosen, with_choice}
use Rattle.choosing.proofs.Street.{street_over, street_is, open_at, filled_closes}
use Rattle.choosing.proofs.Allowed.{AllowedChoice, choice_accepted, with_fold, with_raise, fold_or_raise}
use Rattle.choosing.proofs.Kept.{chosen_fills}

-- the choices of the seats at other places than k stay
record Leaves (p q : Play) (k : ℕ) : Type 0 where
  folds : (j : ℕ) → (j ≡ k → ⊥) → fold_of q j ≡ fold_of p j
  raises : (s j : ℕ) → j < 7 → (j ≡ k → ⊥) → raise_on q s j ≡ raise_on p s j

leaves : (p : Play) (s k c : ℕ) → k < 7 → Leaves p (chosen p s k c) k
leaves p s k c h =
    fold_or_raise (λ q. Leaves p q k) p s k c
    (record { folds = λ j n. get_or-set_other p.folds k j (s + 1) 0 n; raises = λ i j l n. refl })
    (record {
      folds = λ j n. refl;
      raises = λ i j l n. let m : (i * 7 + j ≡ s * 7 + k → ⊥) = λ e. n (omega arith) in get_or-set_other p.raises (s * 7 + k) (i * 7 + j) c 0 m;
    })

-- two of different seats on one street, in either order
abbrev folds_or_raises : Bool → Play → ℕ → ℕ → ℕ → Play
folds_or_raises t p s k c = if t then with_fold p s k else with_raise p s k c

order : (t u : Bool) (p : Play) (s k c j d : ℕ) → (k ≡ j → ⊥)
    → folds_or_raises u (folds_or_raises t p s k c) s j d ≡ folds_or_raises t (folds_or_raises u p s j d) s k c
order true true p s k c j d n = ap (λ (f : List ℕ). record { raises = p.raises; folds = f }) (set_comm p.folds k j (s + 1) (s + 1) n)
order true false p s k c j d n = refl
order false true p s k c j d n = refl
order false false p s k c j d n =
    let m : (s * 7 + k ≡ s * 7 + j → ⊥) = λ e. n (omega arith) in
    ap (λ (x : List ℕ). record { raises = x; folds = p.folds }) (set_comm p.raises (s * 7 + k) (s * 7 + j) c d m)

either_order : (p : Play) (s k c j d : ℕ) → (k ≡ j → ⊥) → chosen (chosen p s k c) s j d ≡ chosen (chosen p s j d) s k c
unfolding chosen
either_order p s k c j d n = order (eqb c 0) (eqb d 0) p s k c j d n

-- a choice stays accepted where another seat's choice on the same street is added or taken away
same_refusal : (antes : List ℕ) (p q : Play) (b : List ℕ) (k : ℕ) → Leaves p q k → (place (byte b 1) ≡ k → ⊥) → place (byte b 1) < 7
    → streets_over antes q ≡ streets_over antes p → choice_refusal antes q b ≡ choice_refusal antes p b
unfolding choice_refusal
same_refusal antes p q b k l n h s = simp (s, l.folds (place (byte b 1)) n, l.raises (streets_over antes p) (place (byte b 1)) h n)

module _ (antes : List ℕ) (p : Play) (b c : List ℕ) (first : choice_refusal antes p b ≡ 0) (opened : streets_over antes p < 3)
    (same : streets_over antes (with_choice antes p b) ≡ streets_over antes p) (second : choice_refusal antes (with_choice antes p b) c ≡ 0)
    (differ : byte b 1 ≡ byte c 1 → ⊥) where
  by_b : AllowedChoice antes p b
  by_b = choice_accepted antes p b first

  by_c : AllowedChoice antes (with_choice antes p b) c
  by_c = choice_accepted antes (with_choice antes p b) c second

  -- the two places
  abbrev k : ℕ
  k = place (byte b 1)

  abbrev j : ℕ
  j = place (byte c 1)

  k_in : k < 7
  k_in = omega (arith, by_b.low, by_b.high)

  j_in : j < 7
  j_in = omega (arith, by_c.low, by_c.high)

  apart : k ≡ j → ⊥
  apart e = differ (omega (arith, by_b.low, by_c.low))

  after_b : Leaves p (with_choice antes p b) k
  after_b = leaves p (streets_over antes p) k (byte b 2) k_in

  after_c : Leaves p (with_choice antes p c) j
  after_c = leaves p (streets_over antes p) j (byte c 2) j_in

  pub swap-first : choice_refusal antes p c ≡ 0
  swap-first = sym (same_refusal antes p (with_choice antes p b) c k after_b (λ e. apart (sym e)) j_in same) ∙ second

  -- the seat of the first choice has still to choose
  pub swap_street : streets_over antes (with_choice antes p c) ≡ streets_over antes p
  swap_street =
      let now : ℕ = streets_over antes p in
      let q : Play = with_choice antes p c in
      let v = choice_accepted antes p c swap-first in
      street_is antes q now opened
      (λ i h. filled_closes antes p q (chosen_fills p now j (byte c 2) v.stays v.free) i (street_over antes p i (omega arith) h))
      (open_at antes q now k k_in by_b.plays (after_c.folds k apart ∙ by_b.stays) (after_c.raises now k k_in apart ∙ by_b.free))

  pub swap-second : choice_refusal antes (with_choice antes p c) b ≡ 0
  swap-second = same_refusal antes p (with_choice antes p c) b j after_c apart k_in swap_street ∙ first

  pub swap_play : with_choice antes (with_choice antes p c) b ≡ with_choice antes (with_choice antes p b) c
  swap_play =
      ap (λ (s : ℕ). chosen (with_choice antes p c) s k (byte b 2)) swap_street
      ∙ sym (either_order p (streets_over antes p) k (byte b 2) j (byte c 2) apart)
      ∙ sym (ap (λ (s : ℕ). chosen (with_choice antes p b) s j (byte c 2)) same)
