-- The parts of a deck, written again one by one, lead to it.
-- Assumes nothing.
use Prim.Native.Nat.{ℕ, ◌+◌, ◌*◌, ◌≤◌, ◌<◌}
use mathlib.Core.Path.{◌≡◌, refl, sym, ap, ◌∙◌}
use mathlib.Core.Bool.{true, false}
use mathlib.Core.List.{List, [], ◌∷◌}
use native.Mathlib.Omega.{arith}
use lib.Dec.{eqb, ltb}
use lib.ListN.{length, take, drop, length-append, length-drop}
use lib.Seq.{sets, length-take-le, take-take, take-add, take_at, drop_at}
use borrow.Author.Tests.{eq-eqb, lt-ltb, leb-true}
use Rattle.counting.specs.Count.{every_of}
use Rattle.counting.proofs.Tests.{both, pass}
use Rattle.counting.proofs.Lists.{every_of_both, every_of_right, every_of_weaker}
use Rattle.counting.proofs.Firsts.{firsts, firsts_none, firsts_take, firsts_on, firsts_rest}
use Rattle.cards.specs.Card.{is_card}
use Rattle.cards.specs.Deck.{faulty, faulty_from}
use Rattle.cards.proofs.Decks.{are_cards, sound_split}
use Rattle.records.specs.Bytes.{byte, zero_from, are_bytes}
use Rattle.dealing.specs.declared.Deck.{Deck}
use Rattle.dealing.specs.Part.{thirteen_of, dealt, with_part, part_faulty, part_refusal, no_deck, deck_fits, part_record}
use Rattle.dealing.proofs.Parts.{part_more, parts_le, deck_sound, deck_zeros}

-- ---- the deck of the first n parts

unfoldable pub first_parts : ℕ → Deck → Deck
first_parts n d = record { cards = firsts (13 * n) d.cards; parts = n }

pub parts_none : (d : Deck) → length d.cards ≡ 52 → first_parts 0 d ≡ no_deck
unfolding first_parts
parts_none d long = ap (λ (cs : List ℕ). record { cards = cs; parts = 0 }) (firsts_none 52 d.cards long)

pub parts_all : (d : Deck) → length d.cards ≡ 52 → deck_fits d ≡ true → first_parts d.parts d ≡ d
unfolding first_parts zero_from
parts_all d long fits =
    ap (λ (cs : List ℕ). record { cards = cs; parts = d.parts }) (firsts_rest (13 * d.parts) d.cards (deck_zeros d fits))

-- ---- the record of a part

-- its thirteen cards
abbrev cards_of : Deck → ℕ → List ℕ
cards_of d n = take 13 (drop (13 * n) d.cards)

pub own_kind : (d : Deck) (n : ℕ) → byte (part_record d n) 0 ≡ 3
unfolding part_record
own_kind d n = refl

module _ (d : Deck) (n : ℕ) (long : length d.cards ≡ 52) (room : n < 4) where
  thirteen : length (cards_of d n) ≡ 13
  thirteen = length-take-le 13 (drop (13 * n) d.cards) (omega (arith, length-drop (13 * n) d.cards))

  pub own_long : length (part_record d n) ≡ 16
  unfolding part_record
  own_long = omega (arith, length-append (cards_of d n) (0 ∷ []), thirteen)

  own_cards : thirteen_of (part_record d n) ≡ cards_of d n
  unfolding part_record
  own_cards = take_at (cards_of d n) (0 ∷ []) 13 thirteen

  own_zero : zero_from 15 (part_record d n) ≡ true
  unfolding part_record zero_from every_of
  own_zero = ap (every_of (λ x. eqb x 0)) (drop_at (cards_of d n) (0 ∷ []) 13 thirteen)

module _ (d : Deck) (n : ℕ) (long : length d.cards ≡ 52) (fits : deck_fits d ≡ true) (h : n < d.parts) where
  room : n < 4
  room = omega (arith, parts_le d fits)

  step : 13 * n + 13 ≡ 13 * (n + 1)
  step = omega arith

  pub own_next : with_part (first_parts n d) (part_record d n) ≡ first_parts (n + 1) d
  unfolding first_parts
  own_next =
      part_more (first_parts n d) (part_record d n) room
      ∙ ap (λ (cs : List ℕ). record { cards = cs; parts = n + 1 })
      (ap (sets (firsts (13 * n) d.cards) (13 * n)) (own_cards d n long room)
      ∙ firsts_on d.cards 13 (13 * n) (omega (arith, room))
      ∙ ap (λ (k : ℕ). firsts k d.cards) step)

  -- the cards up to the end of this part have no fault
  sound : faulty (take (13 * (n + 1)) d.cards) ≡ false
  sound =
      ap faulty (sym (take-take (13 * (n + 1)) (13 * d.parts) d.cards (omega arith)))
      ∙ (sound_split (13 * (n + 1)) (dealt d) (deck_sound d fits)).0

  own_sound : part_faulty (first_parts n d) (part_record d n) ≡ false
  unfolding part_faulty first_parts
  own_sound =
      ap (λ (x : Deck). faulty_from (13 * n) (dealt x)) own_next
      ∙ ap (faulty_from (13 * n)) (firsts_take (13 * (n + 1)) d.cards)
      ∙ (sound_split (13 * n) (take (13 * (n + 1)) d.cards) sound).1

  pub own_part : part_refusal (first_parts n d) (part_record d n) ≡ 0
  unfolding part_refusal first_parts part_record
  own_part = pass _ 4 _ (own_zero d n long room) (pass _ 10 _ (eq-eqb n n refl) (simp own_sound))

  are : every_of is_card (cards_of d n) ≡ true
  are =
      every_of_right is_card (take (13 * n) d.cards) _
      (ap (every_of is_card) (sym (take-add (13 * n) 13 d.cards) ∙ ap (λ (k : ℕ). take k d.cards) step) ∙ are_cards _ sound)

  small : (x : ℕ) → is_card x ≡ true → ltb x 256 ≡ true
  small x e = let most : x ≤ 51 = leb-true x 51 e in lt-ltb x 256 (omega arith)

  pub own_bytes : are_bytes (part_record d n) ≡ true
  unfolding are_bytes part_record every_of
  own_bytes =
      let cs = every_of_weaker is_card (λ x. ltb x 256) small (cards_of d n) are in
      both (ltb n 256) _ (lt-ltb n 256 (omega (arith, room))) (every_of_both (λ x. ltb x 256) (cards_of d n) (0 ∷ []) cs refl)
