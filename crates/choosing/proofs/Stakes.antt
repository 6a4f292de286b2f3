-- What the test of a play says of the raises of a seat.
-- Assumes nothing.
use Prim.Native.Nat.{ℕ, ◌+◌, ◌≤◌, ◌<◌}
use mathlib.Core.Path.{◌≡◌}
use mathlib.Core.Bool.{true}
use mathlib.Core.List.{List}
use native.Mathlib.Omega.{arith}
use lib.ListN.{get_or}
use Rattle.choosing.specs.declared.Play.{Play}
use Rattle.choosing.specs.Streets.{raise_on, fold_of}
use Rattle.choosing.specs.Slots.{play_fits}
use Rattle.choosing.proofs.Slot.{slots_out}

pub raise_most : (antes : List ℕ) (p : Play) (o s k : ℕ) → s < 3 → k < 7 → play_fits antes p o ≡ true → raise_on p s k ≤ 3
raise_most antes p o s k l h fits = (slots_out antes p o fits s k l h).top

pub nine_antes : (antes : List ℕ) (p : Play) (o k : ℕ) → k < 7 → play_fits antes p o ≡ true → raise_on p 0 k + raise_on p 1 k + raise_on p 2 k ≤ 9
nine_antes antes p o k h fits =
    let r0 = raise_most antes p o 0 k (omega arith) h fits in
    let r1 = raise_most antes p o 1 k (omega arith) h fits in
    let r2 = raise_most antes p o 2 k (omega arith) h fits in
    omega arith

pub raised_before_fold : (antes : List ℕ) (p : Play) (o s k : ℕ) → s < 3 → k < 7 → play_fits antes p o ≡ true → s + 1 < fold_of p k → 1 ≤ raise_on p s k
raised_before_fold antes p o s k l h fits f = omega (arith, (slots_out antes p o fits s k l h).late)

pub none_from_fold : (antes : List ℕ) (p : Play) (o s k : ℕ) → s < 3 → k < 7 → play_fits antes p o ≡ true → 0 < fold_of p k → fold_of p k ≤ s + 1
    → raise_on p s k ≡ 0
none_from_fold antes p o s k l h fits f g = omega (arith, (slots_out antes p o fits s k l h).early)

pub absent_none : (antes : List ℕ) (p : Play) (o s k : ℕ) → s < 3 → k < 7 → play_fits antes p o ≡ true → get_or antes k 0 ≡ 0
    → (fold_of p k ≡ 0) × (raise_on p s k ≡ 0)
absent_none antes p o s k l h fits a =
    let v = slots_out antes p o fits s k l h in
    omega (arith, v.folda, v.plays)
