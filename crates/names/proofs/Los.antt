-- A Lo Ball name by its test and a rank that is the highest where the ranks all differ.
-- Assumes nothing.
use Prim.Native.Nat.{ℕ}
use mathlib.Core.Path.{◌≡◌, refl, ap}
use mathlib.Core.Bool.{Bool, true, false, not, ◌&&◌}
use lib.Dec.{eqb}
use borrow.Author.Tests.{eqb-true}
use Rattle.std.specs.Prelude.{if◌then◌else◌}
use Rattle.counting.proofs.Tests.{and_true}
use Rattle.hands.specs.Hand.{of_a_kind, flush, straight, highest}
use Rattle.names.specs.Lo.{is_lo, lo_by}
use Rattle.names.specs.declared.LoName.TheVariants.{High, Nothing}

module _ (h t : ℕ → ℕ) where
  five_ranks : is_lo h t ≡ true → of_a_kind 1 h ≡ 5
  unfolding is_lo
  five_ranks e =
      let p = and_true (eqb (of_a_kind 1 h) 5 && not (straight 5 h)) (not (flush 5 t)) e in
      eqb-true (of_a_kind 1 h) 5 (and_true (eqb (of_a_kind 1 h) 5) (not (straight 5 h)) p.0).0

  pub named_low : (top : ℕ) → (of_a_kind 1 h ≡ 5 → top ≡ highest 13 h) → (if is_lo h t then High top else Nothing) ≡ lo_by h t
  unfolding lo_by
  named_low top high = go (is_lo h t) refl
    where
      go : (b : Bool) → is_lo h t ≡ b → (if b then High top else Nothing) ≡ (if b then High (highest 13 h) else Nothing)
      go true e = ap High (high (five_ranks e))
      go false e = refl
