-- Each accepted record is one more of the round's own records: the last of those that are no choices, or one more choice on its street.
-- Assumes nothing.
use Prim.Native.Nat.{ℕ, suc, ◌+◌, ◌*◌, ◌≤◌, ◌<◌}
use mathlib.Core.Path.{◌≡◌, refl, ap, sym, ◌∙◌}
use mathlib.Core.Bool.{Bool, true, false, or-false}
use mathlib.Core.List.{List, [], ◌∷◌, ◌++◌, append_assoc, append-nil}
use native.Mathlib.Numerals.{add-one}
use native.Mathlib.Omega.{arith}
use lib.Dec.{eqb}
use lib.ListN.{length}
use lib.Seq.{get_or-set_other}
use borrow.Author.Tests.{eqb-true, eqb-false}
use Rattle.counting.specs.Count.{gather}
use Rattle.counting.specs.Order.{Reordered}
use Rattle.counting.proofs.Tests.{clash, is_false}
use Rattle.counting.proofs.Ranges.{none_at}
use Rattle.counting.proofs.Gathers.{gather_same, gather_none, gather_last}
use Rattle.counting.proofs.Orders.{equal, gather-one}
use Rattle.records.specs.Bytes.{byte, word}
use Rattle.records.specs.Seats.{place, plays, any_plays}
use Rattle.seating.specs.declared.Wagers.{Wagers}
use Rattle.seating.specs.Table.{has_table, table_of, table_refusal}
use Rattle.seating.specs.Seat.{seat_refusal, with_seat, seat_record}
use Rattle.seating.proofs.Tables.{table_read, table_high}
use Rattle.seating.proofs.Seats.{seats_need_table, seat_here, seat_free, seat_plays}
use Rattle.dealing.specs.declared.Deck.{Deck}
use Rattle.dealing.specs.Part.{part_refusal, with_part, part_record}
use Rattle.dealing.proofs.Parts.{part_next}
use Rattle.choosing.specs.declared.Play.{Play}
use Rattle.choosing.specs.Choice.{choice_refusal, with_choice}
use Rattle.choosing.proofs.Allowed.{choice_accepted}
use Rattle.choosing.proofs.Kept.{chosen_fills}
use Rattle.choosing.proofs.Street.{streets_grow, filled_closes}
use Rattle.choosing.proofs.Taken.{OneMore, choice_more}
use Rattle.round.specs.declared.Round.{Round}
use Rattle.round.specs.Feed.{feed, with_table, with_wagers, with_deck, with_play}
use Rattle.led.specs.Led.{is_taken}
use Rattle.led.specs.Records.{only, table_records, seat_records, part_records, choice_in, street_records, street_of}
use Rattle.led.proofs.Kept.{Long, Fits}
use Rattle.led.proofs.Took.{Took, took}
use Rattle.led.proofs.Took.Took.{table, seat, part, choice as chose}
use Rattle.again.specs.Again.{is_choice}
use Rattle.again.proofs.Spelled.{table_spelled, seat_spelled, part_before, part_spelled, choice_spelled}

-- the round's own records that are no choices
unfoldable pub others_of : Round → List (List ℕ)
others_of r = table_records r ++ (seat_records r ++ part_records r)

-- what the record b adds to the own records of the round q
pub data Grew (q : Round) (b : List ℕ) (r : Round) : Type 0 where
  -- before the deck is whole, the last that is no choice;
  other : is_choice b ≡ false → q.deck.parts < 4 → others_of r ≡ others_of q ++ (b ∷ [])
      → ((s : ℕ) → street_records r s ≡ street_records q s) → Grew q b r
  -- from then on a choice on the street that is open, and after it no earlier street is
  choice : is_choice b ≡ true → (q.deck.parts ≡ 4) × (r.deck.parts ≡ 4) → (street_of q < 3) × (street_of q ≤ street_of r) → others_of r ≡ others_of q
      → ((s : ℕ) → Reordered (street_records q s ++ only (eqb (street_of q) s) b) (street_records r s)) → Grew q b r

module _ (q : Round) (b : List ℕ) (long : Long q) (fits : Fits q) (sixteen : length b ≡ 16) where
  -- the place of the seat, where the record has one
  abbrev who : ℕ
  who = place (byte b 1)

  no_parts : q.deck.parts ≡ 0 → part_records q ≡ []
  unfolding gather
  no_parts z = rw z

  -- ---- a table: before it nobody plays, and no part was read
  module _ (k : byte b 0 ≡ 1) (h : has_table q.table ≡ false) (e : table_refusal b ≡ 0) where
    nobody : any_plays q.wagers.antes ≡ false
    nobody =
        is_false (any_plays q.wagers.antes)
        (λ p. clash (has_table q.table) (seats_need_table q.table q.wagers fits.seats p) h)

    no_seats : seat_records q ≡ []
    unfolding any_plays
    no_seats = gather_none 7 _ (λ i l. simp (none_at (plays q.wagers.antes) 7 nobody i l))

    undealt : q.deck.parts ≡ 0
    undealt = eqb-true q.deck.parts 0 (rw (nobody, or-false (eqb q.deck.parts 0)) at fits.seated)

    with_table_lem : others_of (with_table q (table_of b)) ≡ others_of q ++ (b ∷ [])
    unfolding others_of
    with_table_lem = rw (no_seats, no_parts undealt, table_read b e, h, table_spelled b sixteen k e)

  -- ---- a seat
  module _ (k : byte b 0 ≡ 2) (h : has_table q.table ≡ true) (z : q.deck.parts ≡ 0) (e : seat_refusal q.table q.wagers b ≡ 0) where
    abbrev seat_in : Wagers → ℕ → List (List ℕ)
    seat_in w i = only (plays w.antes i) (seat_record w i)

    abbrev w : Wagers
    w = q.wagers

    other_seat : (i : ℕ) → (i ≡ who → ⊥) → seat_in (with_seat w b) i ≡ seat_in w i
    unfolding seat_record
    other_seat i n =
        rw (
          get_or-set_other w.antes who i (word b 2) 0 n,
          get_or-set_other w.board who i (word b 4) 0 n,
          get_or-set_other w.pocket who i (word b 6) 0 n,
          get_or-set_other w.lo who i (word b 8) 0 n,
          get_or-set_other w.six who i (word b 10) 0 n,
        )

    one_seat : seat_records (with_wagers q (with_seat w b)) ≡ seat_records q ++ (b ∷ [])
    one_seat =
        let none : (i : ℕ) → who ≤ i → i < 7 → seat_in w i ≡ [] = λ i l m. rw (seat_free q.table w b e i l m) in
        let here = seat_here q.table w b e in
        let there : seat_in (with_seat w b) who ≡ b ∷ [] =
        rw (
          seat_plays q.table w b long.wagers h e,
          seat_spelled b sixteen q.table w long.wagers (table_high q.table fits.table).1 e k,
        ) in
        gather_last (seat_in w) (seat_in (with_seat w b)) who (b ∷ []) (none who (omega arith) here) there 7 here
        (λ i l n. other_seat i n) (λ i l m. none i (omega arith) m)

    with_seat_lem : others_of (with_wagers q (with_seat w b)) ≡ others_of q ++ (b ∷ [])
    unfolding others_of
    with_seat_lem =
        rw (one_seat, no_parts z, append-nil (seat_records q), append-nil (seat_records q ++ (b ∷ [])))
        (sym (append_assoc (table_records q) (seat_records q) (b ∷ [])))

  -- ---- a deck part
  module _ (k : byte b 0 ≡ 3) (h : q.deck.parts < 4) (e : part_refusal q.deck b ≡ 0) where
    abbrev d : Deck
    d = q.deck

    one_part : part_records (with_deck q (with_part d b)) ≡ part_records q ++ (b ∷ [])
    unfolding gather part_record
    one_part =
        let count : (with_part d b).parts ≡ suc d.parts = part_next d b h ∙ add-one d.parts in
        rw (count, part_spelled d b long.cards sixteen h k e)
        (ap (λ (x : List (List ℕ)). x ++ (b ∷ []))
        (gather_same d.parts (λ n. part_record (with_part d b) n ∷ []) (λ n. part_record d n ∷ [])
        (λ n l. ap (λ (x : List ℕ). x ∷ []) (part_before d b long.cards sixteen h n l))))

    with_part_lem : others_of (with_deck q (with_part d b)) ≡ others_of q ++ (b ∷ [])
    unfolding others_of
    with_part_lem =
        rw one_part
        (ap (λ (x : List (List ℕ)). table_records q ++ x) (sym (append_assoc (seat_records q) (part_records q) (b ∷ [])))
        ∙ sym (append_assoc (table_records q) (seat_records q ++ part_records q) (b ∷ [])))

  -- ---- a choice
  module _ (k : byte b 0 ≡ 4) (o : street_of q < 3) (e : choice_refusal q.wagers.antes q.play b ≡ 0) where
    abbrev p : Play
    p = q.play

    abbrev p' : Play
    p' = with_choice q.wagers.antes q.play b

    more : OneMore p (street_of q) who (byte b 2) p'
    more = choice_more q.wagers.antes p b long.play o e

    seat_in_lem : (1 ≤ byte b 1) × (byte b 1 ≤ 7)
    seat_in_lem = let v = choice_accepted q.wagers.antes p b e in (v.low, v.high)

    module _ (s : ℕ) where
      other_choice : (i : ℕ) → (s * 7 + i ≡ street_of q * 7 + who → ⊥) → choice_in p' s i ≡ choice_in p s i
      other_choice i n = let same = more.others s i n in rw (same.0, same.1)

      on_street : street_of q ≡ s → Reordered (street_records q s ++ (b ∷ [])) (street_records (with_play q p') s)
      on_street w =
          let seat : byte b 1 ≡ who + 1 = omega (arith, seat_in_lem) in
          let said = choice_spelled b sixteen who k seat (choice_accepted q.wagers.antes p b e).zeros in
          let empty : choice_in p s who ≡ [] = rw (← w, more.not_yet) in
          let there : choice_in p' s who ≡ b ∷ [] = rw (← w, more.now, more.raise, said) in
          gather-one (choice_in p s) (choice_in p' s) who b empty there 7 (omega (arith, seat_in_lem)) (λ i l n. other_choice i (λ z. n (omega (arith, w))))

      off_street : (street_of q ≡ s → ⊥) → street_records (with_play q p') s ≡ street_records q s
      off_street n = gather_same 7 (choice_in p' s) (choice_in p s) (λ i l. other_choice i (λ z. n (omega (arith, seat_in_lem))))

      with_choice_lem : Reordered (street_records q s ++ only (eqb (street_of q) s) b) (street_records (with_play q p') s)
      with_choice_lem = go (eqb (street_of q) s) refl
        where
          go : (t : Bool) → eqb (street_of q) s ≡ t → Reordered (street_records q s ++ only t b) (street_records (with_play q p') s)
          go true z = on_street (eqb-true (street_of q) s z)
          go false z = equal (append-nil (street_records q s) ∙ sym (off_street (eqb-false (street_of q) s z)))

    later : street_of q ≤ street_of (with_play q p')
    later =
        let v = choice_accepted q.wagers.antes p b e in
        streets_grow q.wagers.antes p p'
        (filled_closes q.wagers.antes p p' (chosen_fills p (street_of q) who (byte b 2) v.stays v.free))

  -- ---- any of the four
  grew : (r : Round) → Took q b r → Grew q b r
  unfolding others_of
  grew r (table k h e) = other (rw k) (omega (arith, undealt k h e)) (with_table_lem k h e) (λ s. refl)
  grew r (seat k h z e) = other (rw k) (omega arith) (with_seat_lem k h z e) (λ s. refl)
  grew r (part k p h e) = other (rw k) h (with_part_lem k h e) (λ s. refl)
  grew r (chose k d o e) = choice (rw k) (d, d) (o, later k o e) refl (with_choice_lem k o e)

pub grows : (q : Round) (b : List ℕ) → Long q → Fits q → is_taken (feed q b).answer ≡ true → Grew q b (feed q b).round
grows q b long fits a = let t = took q b a in grew q b long fits t.0 (feed q b).round t.1
