-- What a side wager hands back where its pay is only asked for a wager above 0: what its pay table says, since no wager hands back nothing.
-- Assumes nothing.
use Prim.Native.Nat.{ℕ, zero, suc}
use mathlib.Core.Path.{◌≡◌, refl, sym, ap, ◌∙◌}
use native.Mathlib.Omega.{arith}
use Rattle.pays.specs.declared.Pay.{Pay}
use Rattle.pays.specs.Amounts.{handed_back}
use Rattle.pays.proofs.Amounts.{nothing_back}

pub back_of : (wager back : ℕ) (pay : Pay) (Said : Pay → Type 0) → (wager ≡ 0 → back ≡ 0)
    → ((wager ≡ 0 → ⊥) → (said : Pay) × Said said × (back ≡ handed_back said wager)) → ((said : Pay) → Said said → said ≡ pay)
    → back ≡ handed_back pay wager
back_of zero back pay Said none some due = none refl ∙ sym (nothing_back pay)
back_of (suc n) back pay Said none some due =
    let s = some (λ e. absurd (omega arith)) in
    s.2 ∙ ap (λ (p : Pay). handed_back p (suc n)) (due s.0 s.1)
