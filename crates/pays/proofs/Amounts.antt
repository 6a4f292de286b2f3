-- What a win, a push and a loss hand back: a win at n to 1 is n + 1 wagers, a push is the wager, and a push is told from a loss by
-- any wager that was placed.
-- Assumes nothing.
use Prim.Native.Nat.{ℕ, ◌+◌, ◌*◌, ◌<◌}
use mathlib.Core.Path.{◌≡◌, refl}
use native.Mathlib.Omega.{arith}
use native.Mathlib.Nat.{add-mul}
use Rattle.pays.specs.declared.Pay.{Pay}
use Rattle.pays.specs.declared.Pay.TheVariants.{To, ThreeToTwo, To200000, Push, Loss, NoTable}
use Rattle.pays.specs.Amounts.{handed_back}

pub win_back : (odds wager : ℕ) → handed_back (To odds) wager ≡ 100 * ((odds + 1) * wager)
win_back odds wager = rw (add-mul odds 1 wager) (omega arith)

pub three_to_two_back : (wager : ℕ) → 2 * handed_back ThreeToTwo wager ≡ 5 * (100 * wager)
three_to_two_back wager = omega arith

pub push_back : (wager : ℕ) → handed_back Push wager ≡ 100 * wager
push_back wager = refl

pub loss_back : (wager : ℕ) → handed_back Loss wager ≡ 0
loss_back wager = refl

pub push_is_no_loss : (wager : ℕ) → 0 < wager → handed_back Loss wager < handed_back Push wager
push_is_no_loss wager placed = omega arith

-- nothing wagered, nothing handed back
pub nothing_back : (pay : Pay) → handed_back pay 0 ≡ 0
nothing_back (To odds) = omega arith
nothing_back ThreeToTwo = refl
nothing_back To200000 = refl
nothing_back Push = refl
nothing_back Loss = refl
nothing_back NoTable = refl
