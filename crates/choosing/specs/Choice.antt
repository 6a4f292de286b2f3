-- The choices.
-- Assumes nothing.
use Rattle.std.specs.Prelude.{ℕ, ◌+◌, ◌*◌, not, List, [], ◌∷◌, eqb, leb, set, if◌then◌else◌}
use Rattle.records.specs.Bytes.{byte, zero_from, between}
use Rattle.records.specs.Seats.{place, plays}
use Rattle.choosing.specs.declared.Play.{Play}
use Rattle.choosing.specs.Streets.{raise_on, fold_of, streets_over}

-- Of the seat at place k. 13: seat isn't in the round. 14: seat has folded. 15: seat has already chosen on this street.
abbrev pub standing_refusal : List ℕ → Play → ℕ → ℕ
standing_refusal antes p k =
    if not (plays antes k) then 13
    else if not (eqb (fold_of p k) 0) then 14
    else if not (eqb (raise_on p (streets_over antes p) k) 0) then 15
    else 0

-- The number of the refusal of what a choice record says, 0 where there is none. 4: a byte that must be zero isn't. 7: seat outside
-- 1 to 7. 12: choice above 3. Then the seat's own.
unfoldable pub choice_refusal : List ℕ → Play → List ℕ → ℕ
choice_refusal antes p b =
    if not (zero_from 3 b) then 4
    else if not (between 1 7 (byte b 1)) then 7
    else if not (leb (byte b 2) 3) then 12
    else standing_refusal antes p (place (byte b 1))

-- The seat at place k chooses on street s: 0 folds, 1 to 3 raises by that many antes.
unfoldable pub chosen : Play → ℕ → ℕ → ℕ → Play
chosen p s k choice =
    if eqb choice 0 then record { raises = p.raises; folds = set p.folds k (s + 1) }
    else record { raises = set p.raises (s * 7 + k) choice; folds = p.folds }

-- 4, choice: byte 1 seat; byte 2 the choice. It is made on the street that is open.
abbrev pub with_choice : List ℕ → Play → List ℕ → Play
with_choice antes p b = chosen p (streets_over antes p) (place (byte b 1)) (byte b 2)

-- the record of a choice by the seat at place k
unfoldable pub choice_record : ℕ → ℕ → List ℕ
choice_record k choice = 4 ∷ (k + 1) ∷ choice ∷ 0 ∷ 0 ∷ 0 ∷ 0 ∷ 0 ∷ 0 ∷ 0 ∷ 0 ∷ 0 ∷ 0 ∷ 0 ∷ 0 ∷ 0 ∷ []
