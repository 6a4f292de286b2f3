-- The name of five cards.
-- Assumes nothing.
use Rattle.std.specs.Prelude.{ℕ, ◌&&◌, List, Result, eqb, if◌then◌else◌}
use Rattle.causes.specs.declared.Refusal.{Refusal}
use Rattle.causes.specs.Refusal.{answered}
use Rattle.cards.specs.Card.{six, jack}
use Rattle.hands.specs.Hand.{of_rank, of_suit, kinds, of_a_kind, flush, run, straight, hand_refusal}
use Rattle.names.specs.declared.FiveName.{FiveName}
use Rattle.names.specs.declared.FiveName.TheVariants.{RoyalFlush, StraightFlush, FourOfAKind, FullHouse, Flush, Straight, ThreeOfAKind, TwoPair, JacksToAces, SixesToTens, Other}

-- Five cards, highest name only. (h: how often each rank occurs; t: how often each suit; the run of five from 10 is 10-J-Q-K-A; the
-- four ranks from the jack on are J, Q, K and A, and the five from the six on are six to ten.)
unfoldable pub five_by : (ℕ → ℕ) → (ℕ → ℕ) → FiveName
five_by h t =
    if flush 5 t && run 5 10 h then RoyalFlush
    else if flush 5 t && straight 5 h then StraightFlush
    else if eqb (of_a_kind 4 h) 1 then FourOfAKind
    else if eqb (of_a_kind 3 h) 1 && eqb (of_a_kind 2 h) 1 then FullHouse
    else if flush 5 t then Flush
    else if straight 5 h then Straight
    else if eqb (of_a_kind 3 h) 1 then ThreeOfAKind
    else if eqb (of_a_kind 2 h) 2 then TwoPair
    else if eqb (kinds 2 jack 4 h) 1 then JacksToAces
    else if eqb (kinds 2 six 5 h) 1 then SixesToTens
    else Other

unfoldable pub name_five : List ℕ → FiveName
name_five cs = five_by (of_rank cs) (of_suit cs)

-- what is answered on any cards
unfoldable pub answer_five : List ℕ → Result FiveName Refusal
answer_five cs = answered (hand_refusal 5 cs) (name_five cs)

-- a name's place in document 01's list, from 0
abbrev pub five_place : FiveName → ℕ
five_place RoyalFlush = 0
five_place StraightFlush = 1
five_place FourOfAKind = 2
five_place FullHouse = 3
five_place Flush = 4
five_place Straight = 5
five_place ThreeOfAKind = 6
five_place TwoPair = 7
five_place JacksToAces = 8
five_place SixesToTens = 9
five_place Other = 10
