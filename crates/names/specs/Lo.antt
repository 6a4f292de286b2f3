-- The Lo Ball name of five cards.
-- Assumes nothing.
use Rattle.std.specs.Prelude.{ℕ, Bool, not, ◌&&◌, List, Result, eqb, if◌then◌else◌}
use Rattle.causes.specs.declared.Refusal.{Refusal}
use Rattle.causes.specs.Refusal.{answered}
use Rattle.hands.specs.Hand.{of_rank, of_suit, of_a_kind, flush, straight, highest, hand_refusal}
use Rattle.names.specs.declared.LoName.{LoName}
use Rattle.names.specs.declared.LoName.TheVariants.{High, Nothing}

-- all five ranks differ, and there is no straight or flush
unfoldable pub is_lo : (ℕ → ℕ) → (ℕ → ℕ) → Bool
is_lo h t = eqb (of_a_kind 1 h) 5 && not (straight 5 h) && not (flush 5 t)

-- Lo Ball, five cards: if all ranks differ and there is no straight or flush, the highest rank, ace high; otherwise nothing
unfoldable pub lo_by : (ℕ → ℕ) → (ℕ → ℕ) → LoName
lo_by h t = if is_lo h t then High (highest 13 h) else Nothing

unfoldable pub name_lo : List ℕ → LoName
name_lo cs = lo_by (of_rank cs) (of_suit cs)

-- what is answered on any cards
unfoldable pub answer_lo : List ℕ → Result LoName Refusal
answer_lo cs = answered (hand_refusal 5 cs) (name_lo cs)

-- a name as a number: the high rank, and 13 for nothing
abbrev pub lo_high : LoName → ℕ
lo_high (High rank) = rank
lo_high Nothing = 13
