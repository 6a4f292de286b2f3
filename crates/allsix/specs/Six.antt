-- The All-Six name of six cards.
-- Assumes nothing.
use Rattle.std.specs.Prelude.{ℕ, zero, suc, ◌+◌, Bool, ◌&&◌, List, [], ◌∷◌, Result, eqb, leb, if◌then◌else◌}
use Rattle.causes.specs.declared.Refusal.{Refusal}
use Rattle.causes.specs.Refusal.{answered}
use Rattle.hands.specs.Hand.{of_rank, of_suit, flush, run, hand_refusal}
use Rattle.names.specs.Answer.{told}
use Rattle.names.specs.declared.FiveName.{FiveName}
use Rattle.names.specs.Five.{name_five, five_place}
use Rattle.allsix.specs.declared.SixName.{SixName}
use Rattle.allsix.specs.declared.SixName.TheVariants.{RoyalOfDiamonds, Royal, Five}

-- the cards but for the one at place k
unfoldable pub without : ℕ → List ℕ → List ℕ
without k [] = []
without zero (c ∷ cs) = cs
without (suc k) (c ∷ cs) = c ∷ without k cs

-- the higher of two names of five cards
unfoldable pub higher : FiveName → FiveName → FiveName
higher a b = if leb (five_place a) (five_place b) then a else b

-- the best of the names that are left where a card up to place n is left out
unfoldable pub best_up_to : ℕ → List ℕ → FiveName
best_up_to zero cs = name_five (without 0 cs)
best_up_to (suc n) cs = higher (name_five (without (suc n) cs)) (best_up_to n cs)

-- the name of the best five of the six
abbrev pub best_of_six : List ℕ → FiveName
best_of_six cs = best_up_to 5 cs

-- nine to ace of one suit (9 is the nine's number on the line A 2 3 .. Q K A)
unfoldable pub six_royal : List ℕ → Bool
six_royal cs = flush 6 (of_suit cs) && run 6 9 (of_rank cs)

-- The hand is the best five of the six, except that nine to ace of one suit is the six-card royal. (Suit 1 is diamonds, which Appendix E tells apart.)
unfoldable pub name_six : List ℕ → SixName
name_six cs =
    if six_royal cs && eqb (of_suit cs 1) 6 then RoyalOfDiamonds
    else if six_royal cs then Royal
    else Five (best_of_six cs)

-- what is answered on any cards
unfoldable pub answer_six : List ℕ → Result SixName Refusal
answer_six cs = answered (hand_refusal 6 cs) (name_six cs)

-- a name's place from the top: the six-card royals, then the names of five cards
abbrev pub six_place : SixName → ℕ
six_place RoyalOfDiamonds = 0
six_place Royal = 1
six_place (Five name) = five_place name + 2

-- what is told of a name to one who lends a number for it: its place; of a refusal nothing, and the number is what it was
abbrev pub six_told : Result SixName Refusal → ℕ → ℕ
six_told = told six_place
