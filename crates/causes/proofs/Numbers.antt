-- No two refusals have one number.
-- Assumes nothing.
use Rattle.std.proofs.Common.{◌≡◌, refl, sym, ap, ◌∙◌}
use Rattle.causes.specs.declared.Refusal.{Refusal}
use Rattle.causes.specs.declared.Refusal.TheVariants.{ListLength, RecordLength, OutOfPlace, ByteNotZero, AnteLimit, NoPayTable, SeatNumber, Ante, SideWager, DeckPart, Card, Choice, SeatNotIn, SeatFolded, AlreadyChosen, NotFinished, NotHeld, HandLength, SharingLists, SharingLimit}
use Rattle.causes.specs.Refusal.{number, cause}

pub cause-number : (refusal : Refusal) → cause (number refusal) ≡ refusal
cause-number ListLength = refl
cause-number RecordLength = refl
cause-number OutOfPlace = refl
cause-number ByteNotZero = refl
cause-number AnteLimit = refl
cause-number NoPayTable = refl
cause-number SeatNumber = refl
cause-number Ante = refl
cause-number SideWager = refl
cause-number DeckPart = refl
cause-number Card = refl
cause-number Choice = refl
cause-number SeatNotIn = refl
cause-number SeatFolded = refl
cause-number AlreadyChosen = refl
cause-number NotFinished = refl
cause-number NotHeld = refl
cause-number HandLength = refl
cause-number SharingLists = refl
cause-number SharingLimit = refl

pub one_number : (a b : Refusal) → number a ≡ number b → a ≡ b
one_number a b e = sym (cause-number a) ∙ ap cause e ∙ cause-number b
