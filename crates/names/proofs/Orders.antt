-- The order of the cards plays no part in a name, nor in its refusal.
-- Assumes nothing.
use Prim.Native.Nat.{ℕ}
use mathlib.Core.Path.{◌≡◌, ap₂, fun_ext}
use mathlib.Core.List.{List}
use lib.Dec.{eqb}
use Rattle.counting.specs.Order.{Reordered}
use Rattle.counting.proofs.Orders.{reordered_length, reordered_count}
use Rattle.cards.specs.Card.{rank, suit}
use Rattle.cards.proofs.Orders.{reordered_faulty}
use Rattle.hands.specs.Hand.{of_rank, of_suit, hand_refusal}
use Rattle.names.specs.Five.{five_by, name_five, answer_five}
use Rattle.names.specs.Board.{board_by, name_board, answer_board}
use Rattle.names.specs.Pocket.{pocket_by, name_pocket, answer_pocket}
use Rattle.names.specs.Lo.{lo_by, name_lo, answer_lo}

module _ {xs ys : List ℕ} (other : Reordered xs ys) where
  -- whatever goes by how often ranks and suits occur
  pub by_counts : {Name : Type 0} (by : (ℕ → ℕ) → (ℕ → ℕ) → Name) → by (of_rank xs) (of_suit xs) ≡ by (of_rank ys) (of_suit ys)
  unfolding of_rank of_suit
  by_counts by =
      ap₂ by (fun_ext (λ r. reordered_count (λ c. eqb (rank c) r) other)) (fun_ext (λ s. reordered_count (λ c. eqb (suit c) s) other))

  pub refusal_reordered : (n : ℕ) → hand_refusal n xs ≡ hand_refusal n ys
  unfolding hand_refusal
  refusal_reordered n = rw (reordered_length other, reordered_faulty other)

  pub five_reordered : name_five xs ≡ name_five ys
  unfolding name_five
  five_reordered = by_counts five_by

  pub board_reordered : name_board xs ≡ name_board ys
  unfolding name_board
  board_reordered = by_counts board_by

  pub pocket_reordered : name_pocket xs ≡ name_pocket ys
  unfolding name_pocket
  pocket_reordered = by_counts pocket_by

  pub lo_reordered : name_lo xs ≡ name_lo ys
  unfolding name_lo
  lo_reordered = by_counts lo_by

  pub answer_five_reordered : answer_five xs ≡ answer_five ys
  unfolding answer_five
  answer_five_reordered = rw (refusal_reordered 5, five_reordered)

  pub answer_board_reordered : answer_board xs ≡ answer_board ys
  unfolding answer_board
  answer_board_reordered = rw (refusal_reordered 3, board_reordered)

  pub answer_pocket_reordered : answer_pocket xs ≡ answer_pocket ys
  unfolding answer_pocket
  answer_pocket_reordered = rw (refusal_reordered 2, pocket_reordered)

  pub answer_lo_reordered : answer_lo xs ≡ answer_lo ys
  unfolding answer_lo
  answer_lo_reordered = rw (refusal_reordered 5, lo_reordered)
