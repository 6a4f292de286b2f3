-- A folded seat is handed nothing back on its base wager, and a seat that doesn't play nothing at all.
-- Assumes nothing.
use Prim.Native.Nat.{ℕ, ◌<◌}
use mathlib.Core.Path.{◌≡◌, sym, ◌∙◌}
use mathlib.Core.Bool.{false, and-false}
use mathlib.Core.List.{[], ◌∷◌}
use native.Mathlib.Omega.{arith}
use borrow.Author.Tests.{ne_eqb}
use Rattle.records.specs.Seats.{plays}
use Rattle.seating.proofs.Seats.{absent_zero}
use Rattle.choosing.specs.Streets.{fold_of}
use Rattle.round.specs.declared.Round.{Round}
use Rattle.led.specs.Led.{Led}
use Rattle.led.proofs.Facts.{led_absent}
use Rattle.pays.proofs.Amounts.{nothing_back}
use Rattle.amounts.specs.Base.{stays_in, pooled, win, kept}
use Rattle.amounts.specs.Sides.{board_amount, pocket_amount, lo_amount, six_amount}
use Rattle.results.specs.Results.{base_amount, seat_amounts}
use Rattle.results.proofs.Places.{base-none}

module _ (r : Round) (k : ℕ) (h : k < 7) where
  -- a seat that is no longer in has no win in the pool, and nothing is kept for it
  out_base : stays_in r k ≡ false → base_amount r k ≡ 0
  unfolding win kept pooled
  out_base e =
      let none : win r k ≡ 0 = simp e in
      let nothing : kept r k ≡ 0 = simp e in
      sym (base-none r k h (omega arith)) ∙ nothing

  pub folded_base : (fold_of r.play k ≡ 0 → ⊥) → base_amount r k ≡ 0
  folded_base f = out_base (simp (ne_eqb (fold_of r.play k) 0 f, and-false))

  pub absent_amounts : Led r → plays r.wagers.antes k ≡ false → seat_amounts r k ≡ 0 ∷ 0 ∷ 0 ∷ 0 ∷ 0 ∷ []
  unfolding seat_amounts board_amount pocket_amount lo_amount six_amount
  absent_amounts l p =
      let zero = absent_zero r.wagers k (led_absent r l k h p) in
      let base : base_amount r k ≡ 0 = out_base (simp p) in
      simp (base, zero.1, zero.2, zero.3, zero.4, nothing_back)
