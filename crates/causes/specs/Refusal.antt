-- The refusals, by number: when the dealer is told no.
-- Assumes nothing.
use Rattle.std.specs.Prelude.{ℕ, Result, Ok, Err, eqb, if◌then◌else◌}
use Rattle.causes.specs.declared.Refusal.{Refusal}
use Rattle.causes.specs.declared.Refusal.TheVariants.{ListLength, RecordLength, OutOfPlace, ByteNotZero, AnteLimit, NoPayTable, SeatNumber, Ante, SideWager, DeckPart, Card, Choice, SeatNotIn, SeatFolded, AlreadyChosen, NotFinished, NotHeld, HandLength, SharingLists, SharingLimit}

abbrev pub number : Refusal → ℕ
number ListLength = 1
number RecordLength = 2
number OutOfPlace = 3
number ByteNotZero = 4
number AnteLimit = 5
number NoPayTable = 6
number SeatNumber = 7
number Ante = 8
number SideWager = 9
number DeckPart = 10
number Card = 11
number Choice = 12
number SeatNotIn = 13
number SeatFolded = 14
number AlreadyChosen = 15
number NotFinished = 16
number NotHeld = 17
number HandLength = 18
number SharingLists = 19
number SharingLimit = 20

-- the refusal that has a number; a number that none has is that of the last
abbrev pub cause : ℕ → Refusal
cause n =
    if eqb n 1 then ListLength
    else if eqb n 2 then RecordLength
    else if eqb n 3 then OutOfPlace
    else if eqb n 4 then ByteNotZero
    else if eqb n 5 then AnteLimit
    else if eqb n 6 then NoPayTable
    else if eqb n 7 then SeatNumber
    else if eqb n 8 then Ante
    else if eqb n 9 then SideWager
    else if eqb n 10 then DeckPart
    else if eqb n 11 then Card
    else if eqb n 12 then Choice
    else if eqb n 13 then SeatNotIn
    else if eqb n 14 then SeatFolded
    else if eqb n 15 then AlreadyChosen
    else if eqb n 16 then NotFinished
    else if eqb n 17 then NotHeld
    else if eqb n 18 then HandLength
    else if eqb n 19 then SharingLists
    else SharingLimit

-- the number of an answer's refusal, 0 where there is none
abbrev pub number_of : {A : Type 0} → Result A Refusal → ℕ
number_of (Ok x) = 0
number_of (Err refusal) = number refusal

-- the answer with the number n of its refusal: this value where n is 0
unfoldable pub answered : {A : Type 0} → ℕ → A → Result A Refusal
answered n x = if eqb n 0 then Ok x else Err (cause n)
