-- The name of a seat's two cards.
-- Assumes nothing.
use Rattle.std.specs.Prelude.{ℕ, Bool, ◌&&◌, List, Result, eqb, if◌then◌else◌}
use Rattle.causes.specs.declared.Refusal.{Refusal}
use Rattle.causes.specs.Refusal.{answered}
use Rattle.cards.specs.Card.{jack, ace}
use Rattle.hands.specs.Hand.{of_rank, of_suit, kinds, of_a_kind, flush, hand_refusal}
use Rattle.names.specs.declared.PocketName.{PocketName}
use Rattle.names.specs.declared.PocketName.TheVariants.{Aces, AceFaceSuited, AceFace, OtherPair, Nothing}

-- an ace with K, Q or J
unfoldable pub ace_face : (ℕ → ℕ) → Bool
ace_face h = eqb (h ace) 1 && eqb (kinds 1 jack 3 h) 1

-- Pocket: pair of aces; ace with K, Q or J suited; the same unsuited; other pair; nothing
unfoldable pub pocket_by : (ℕ → ℕ) → (ℕ → ℕ) → PocketName
pocket_by h t =
    if eqb (h ace) 2 then Aces
    else if ace_face h && flush 2 t then AceFaceSuited
    else if ace_face h then AceFace
    else if eqb (of_a_kind 2 h) 1 then OtherPair
    else Nothing

unfoldable pub name_pocket : List ℕ → PocketName
name_pocket cs = pocket_by (of_rank cs) (of_suit cs)

-- what is answered on any cards
unfoldable pub answer_pocket : List ℕ → Result PocketName Refusal
answer_pocket cs = answered (hand_refusal 2 cs) (name_pocket cs)

-- a name's place in document 01's list, from 0
abbrev pub pocket_place : PocketName → ℕ
pocket_place Aces = 0
pocket_place AceFaceSuited = 1
pocket_place AceFace = 2
pocket_place OtherPair = 3
pocket_place Nothing = 4
