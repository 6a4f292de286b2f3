-- The deck, read in four parts.
-- Assumes nothing.
use Rattle.std.specs.Prelude.{ℕ, ◌+◌, ◌*◌, Bool, not, ◌&&◌, List, [], ◌∷◌, ◌++◌, eqb, leb, ltb, take, drop, replicate, if◌then◌else◌}
use Rattle.std.proofs.lemmas.List.Edits.{sets}
use Rattle.std.proofs.Math.Seq.{slice}
use Rattle.cards.specs.Deck.{faulty, faulty_from}
use Rattle.records.specs.Bytes.{byte, zero_from}
use Rattle.dealing.specs.declared.Deck.{Deck}

-- 3, deck: byte 1 part 0 to 3; bytes 2 to 14 thirteen cards, top first.
abbrev pub thirteen_of : List ℕ → List ℕ
thirteen_of b = slice 2 15 b

-- the cards of the parts read so far; places not yet filled are no cards
abbrev pub dealt : Deck → List ℕ
dealt d = take (13 * d.parts) d.cards

-- the record's cards come after those read so far; after the fourth part there is no room
unfoldable pub with_part : Deck → List ℕ → Deck
with_part d b =
    if ltb d.parts 4 then record { cards = sets d.cards (13 * d.parts) (thirteen_of b); parts = d.parts + 1 }
    else d

-- card above 51, or a repeat, within the part or of a part before
unfoldable pub part_faulty : Deck → List ℕ → Bool
part_faulty d b = faulty_from (13 * d.parts) (dealt (with_part d b))

-- The number of the refusal of what a deck record says, 0 where there is none. 4: a byte that must be zero isn't. 10: deck part not
-- the next one. 11: card above 51, or a repeat.
unfoldable pub part_refusal : Deck → List ℕ → ℕ
part_refusal d b =
    if not (zero_from 15 b) then 4
    else if not (eqb (byte b 1) d.parts) then 10
    else if part_faulty d b then 11
    else 0

-- before the first part
abbrev pub no_deck : Deck
no_deck = record { cards = replicate 52 0; parts = 0 }

-- the deck of a round that accepted records lead to: at most four parts, their cards without fault, zeros from there
unfoldable pub deck_fits : Deck → Bool
deck_fits d = leb d.parts 4 && (not (faulty (dealt d)) && zero_from (13 * d.parts) d.cards)

-- the record of part n
unfoldable pub part_record : Deck → ℕ → List ℕ
part_record d n = 3 ∷ n ∷ (take 13 (drop (13 * n) d.cards) ++ (0 ∷ []))
