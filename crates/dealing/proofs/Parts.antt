-- What an accepted deck part says; it keeps what the test says of the deck, and four of them are a whole deck.
-- Assumes nothing.
use Prim.Native.Nat.{ℕ, ◌+◌, ◌*◌, ◌≤◌, ◌<◌}
use mathlib.Core.Path.{◌≡◌, refl, sym, ap, ◌∙◌}
use mathlib.Core.Bool.{Bool, true, false, not, ◌&&◌}
use mathlib.Core.List.{List, ◌++◌}
use native.Mathlib.Omega.{arith}
use lib.Dec.{eqb, leb, ltb}
use lib.ListN.{length, take, drop, length-append}
use lib.Seq.{sets, sets-eq, length-slice, length-sets, length-take-le, take_at, drop_at, take_all, drop-drop}
use borrow.Author.Tests.{eqb-true, eq-eqb, leb-true, le-leb, lt-ltb, not-true}
use Rattle.std.specs.Prelude.{if◌then◌else◌}
use Rattle.counting.specs.Count.{every_of, some_below}
use Rattle.counting.proofs.Tests.{and_true, unchosen, passed}
use Rattle.counting.proofs.Lists.{every_of-drop}
use Rattle.cards.specs.Deck.{repeats, faulty, whole_deck}
use Rattle.cards.proofs.Decks.{faulty_split}
use Rattle.records.specs.Bytes.{byte, zero_from}
use Rattle.dealing.specs.declared.Deck.{Deck}
use Rattle.dealing.specs.Part.{thirteen_of, dealt, with_part, part_faulty, part_refusal, no_deck, deck_fits}

-- ---- an accepted part

pub record AllowedPart (d : Deck) (b : List ℕ) : Type 0 where
  pub zeros : zero_from 15 b ≡ true
  pub part : byte b 1 ≡ d.parts
  pub cards : part_faulty d b ≡ false

pub part_accepted : (d : Deck) (b : List ℕ) → part_refusal d b ≡ 0 → AllowedPart d b
unfolding part_refusal
part_accepted d b e =
    let p = passed _ 3 _ e in
    let q = passed _ 9 _ p.1 in
    record { zeros = p.0; part = eqb-true _ _ q.0; cards = (unchosen (part_faulty d b) 10 0 q.1).0 }

-- ---- the deck with one more part

-- its cards
abbrev filled : Deck → List ℕ → List ℕ
filled d b = sets d.cards (13 * d.parts) (thirteen_of b)

abbrev pub next_deck : Deck → List ℕ → Deck
next_deck d b = record { cards = filled d b; parts = d.parts + 1 }

pub part_sized : (d : Deck) (b : List ℕ) → length (with_part d b).cards ≡ length d.cards
unfolding with_part
part_sized d b = go (ltb d.parts 4)
  where
    go : (t : Bool) → length (if t then next_deck d b else d).cards ≡ length d.cards
    go true = length-sets d.cards (13 * d.parts) (thirteen_of b)
    go false = refl

module _ (d : Deck) (b : List ℕ) (room : d.parts < 4) where
  pub part_more : with_part d b ≡ next_deck d b
  unfolding with_part
  part_more = simp (lt-ltb d.parts 4 room)

  pub part_next : (with_part d b).parts ≡ d.parts + 1
  part_next = ap (λ (x : Deck). x.parts) part_more

-- ---- what the test says of a deck

module _ (d : Deck) (fits : deck_fits d ≡ true) where
  tests : (leb d.parts 4 ≡ true) × (not (faulty (dealt d)) ≡ true) × (zero_from (13 * d.parts) d.cards ≡ true)
  unfolding deck_fits
  tests =
      let p = and_true (leb d.parts 4) (not (faulty (dealt d)) && zero_from (13 * d.parts) d.cards) fits in
      let q = and_true (not (faulty (dealt d))) (zero_from (13 * d.parts) d.cards) p.1 in
      (p.0, q.0, q.1)

  pub parts_le : d.parts ≤ 4
  parts_le = leb-true _ _ tests.0

  pub deck_sound : faulty (dealt d) ≡ false
  deck_sound = not-true _ tests.1

  pub deck_zeros : zero_from (13 * d.parts) d.cards ≡ true
  deck_zeros = tests.2

deck_of : (d : Deck) → d.parts ≤ 4 → faulty (dealt d) ≡ false → zero_from (13 * d.parts) d.cards ≡ true → deck_fits d ≡ true
unfolding deck_fits
deck_of d p q z = simp (le-leb d.parts 4 p, q, z)

pub deck_fresh : deck_fits no_deck ≡ true
unfolding deck_fits faulty zero_from every_of repeats some_below
deck_fresh = refl

-- a deck of four parts has none of its cards still to come
pub whole : (d : Deck) → length d.cards ≡ 52 → deck_fits d ≡ true → d.parts ≡ 4 → whole_deck d.cards ≡ true
unfolding whole_deck
whole d long fits four =
    let cs : dealt d ≡ d.cards = take_all (13 * d.parts) d.cards (omega arith) in
    let s : faulty d.cards ≡ false = sym (ap faulty cs) ∙ deck_sound d fits in
    simp (eq-eqb (length d.cards) 52 long, s)

-- ---- the test goes on holding

module _ (d : Deck) (b : List ℕ) (long : length d.cards ≡ 52) (sixteen : length b ≡ 16) (room : d.parts < 4) where
  pub part_thirteen : length (thirteen_of b) ≡ 13
  part_thirteen = length-slice 2 15 b (omega arith)

  -- the cards read so far, the record's, and what is still to come
  pub part_filled : filled d b ≡ dealt d ++ thirteen_of b ++ drop (13 * d.parts + length (thirteen_of b)) d.cards
  part_filled = sets-eq (thirteen_of b) d.cards (13 * d.parts) (omega (arith, part_thirteen))

  so_far : length (dealt d ++ thirteen_of b) ≡ 13 * (d.parts + 1)
  so_far = omega (arith, length-append (dealt d) (thirteen_of b), length-take-le (13 * d.parts) d.cards (omega arith), part_thirteen)

  cards_next : dealt (next_deck d b) ≡ dealt d ++ thirteen_of b
  cards_next =
      ap (take (13 * (d.parts + 1))) part_filled
      ∙ take_at (dealt d ++ thirteen_of b) (drop (13 * d.parts + length (thirteen_of b)) d.cards) (13 * (d.parts + 1)) so_far

  still : drop (13 * (d.parts + 1)) (filled d b) ≡ drop 13 (drop (13 * d.parts) d.cards)
  still =
      ap (drop (13 * (d.parts + 1))) part_filled
      ∙ drop_at (dealt d ++ thirteen_of b) (drop (13 * d.parts + length (thirteen_of b)) d.cards) (13 * (d.parts + 1)) so_far
      ∙ ap (λ (n : ℕ). drop (13 * d.parts + n) d.cards) part_thirteen
      ∙ sym (drop-drop 13 (13 * d.parts) d.cards)

  zeros_still : deck_fits d ≡ true → zero_from (13 * (d.parts + 1)) (filled d b) ≡ true
  unfolding zero_from
  zeros_still fits = ap (every_of (λ x. eqb x 0)) still ∙ every_of-drop (λ x. eqb x 0) 13 (drop (13 * d.parts) d.cards) (deck_zeros d fits)

  before : take (13 * d.parts) (dealt (next_deck d b)) ≡ dealt d
  before =
      ap (take (13 * d.parts)) cards_next
      ∙ take_at (dealt d) (thirteen_of b) (13 * d.parts) (length-take-le (13 * d.parts) d.cards (omega arith))

  -- where the parts before have no fault, looking at the new cards is looking at all
  pub part_faults : deck_fits d ≡ true → part_faulty d b ≡ faulty (dealt (with_part d b))
  unfolding part_faulty
  part_faults fits =
      rw (part_more d b room) (sym (faulty_split (13 * d.parts) (dealt (next_deck d b)) ∙ simp (ap faulty before ∙ deck_sound d fits)))

  next_sound : deck_fits d ≡ true → part_refusal d b ≡ 0 → faulty (dealt (next_deck d b)) ≡ false
  next_sound fits accepted =
      ap (λ (x : Deck). faulty (dealt x)) (sym (part_more d b room)) ∙ sym (part_faults fits) ∙ (part_accepted d b accepted).cards

  pub part_kept : deck_fits d ≡ true → part_refusal d b ≡ 0 → deck_fits (with_part d b) ≡ true
  part_kept fits accepted =
      ap deck_fits (part_more d b room)
      ∙ deck_of (next_deck d b) (omega arith) (next_sound fits accepted) (zeros_still fits)
