-- What the laws of this crate speak of.
-- Assumes nothing.
use Rattle.std.specs.Prelude.{ℕ, ◌≤◌, ◌<◌, ◌≡◌, true, List}
use Rattle.hands.specs.Hand.{of_rank, of_suit, run}

-- five cards that are all of the suit u and the run from number p of the line A 2 3 .. Q K A on
pub record SuitedRun (cs : List ℕ) (u p : ℕ) : Type 0 where
  pub suit : u < 4
  pub suited : of_suit cs u ≡ 5
  pub starts : (1 ≤ p) × (p ≤ 10)
  pub in_run : run 5 p (of_rank cs) ≡ true

-- the cards of one seat are none of another's
abbrev pub Apart : ℕ → ℕ → ℕ → ℕ → Type 0
Apart x y x' y' = ((x ≡ x' → ⊥) × (x ≡ y' → ⊥)) × ((y ≡ x' → ⊥) × (y ≡ y' → ⊥))
