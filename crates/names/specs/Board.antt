-- The name of the three cards of the board.
-- Assumes nothing.
use Rattle.std.specs.Prelude.{ℕ, ◌&&◌, List, Result, eqb, if◌then◌else◌}
use Rattle.causes.specs.declared.Refusal.{Refusal}
use Rattle.causes.specs.Refusal.{answered}
use Rattle.hands.specs.Hand.{of_rank, of_suit, of_a_kind, flush, run, straight, hand_refusal}
use Rattle.names.specs.declared.BoardName.{BoardName}
use Rattle.names.specs.declared.BoardName.TheVariants.{Royal, StraightFlush, ThreeOfAKind, Straight, Flush, Pair, Other}

-- Board, three cards: royal (Q-K-A suited), straight flush, three of a kind, straight, flush, pair, other. (The run of three from 12 is
-- Q-K-A.)
unfoldable pub board_by : (ℕ → ℕ) → (ℕ → ℕ) → BoardName
board_by h t =
    if flush 3 t && run 3 12 h then Royal
    else if flush 3 t && straight 3 h then StraightFlush
    else if eqb (of_a_kind 3 h) 1 then ThreeOfAKind
    else if straight 3 h then Straight
    else if flush 3 t then Flush
    else if eqb (of_a_kind 2 h) 1 then Pair
    else Other

unfoldable pub name_board : List ℕ → BoardName
name_board cs = board_by (of_rank cs) (of_suit cs)

-- what is answered on any cards
unfoldable pub answer_board : List ℕ → Result BoardName Refusal
answer_board cs = answered (hand_refusal 3 cs) (name_board cs)

-- a name's place in document 01's list, from 0
abbrev pub board_place : BoardName → ℕ
board_place Royal = 0
board_place StraightFlush = 1
board_place ThreeOfAKind = 2
board_place Straight = 3
board_place Flush = 4
board_place Pair = 5
board_place Other = 6
