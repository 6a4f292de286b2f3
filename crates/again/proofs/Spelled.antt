-- An accepted record is the record of what it says.
-- Assumes nothing.
use Prim.Native.Nat.{ℕ, ◌+◌, ◌*◌, ◌≤◌, ◌<◌}
use mathlib.Core.Path.{◌≡◌, ap, sym, ◌∙◌}
use mathlib.Core.Bool.{true}
use mathlib.Core.List.{List, [], ◌∷◌, ◌++◌, append_assoc}
use native.Mathlib.Omega.{arith}
use lib.ListN.{length, take, drop, length-drop, take-append-drop}
use lib.Seq.{length-take-le, take-append-le, drop-append-le, take_at, drop_at}
use Rattle.counting.specs.Count.{gather, each}
use Rattle.counting.proofs.Gathers.{each_of}
use Rattle.counting.proofs.Firsts.{kept, firsts, firsts_rest}
use Rattle.records.specs.Bytes.{byte, word, zero_from}
use Rattle.records.specs.Seats.{place}
use Rattle.seating.specs.declared.Table.{Table}
use Rattle.seating.specs.declared.Wagers.{Wagers}
use Rattle.seating.specs.Table.{table_of, table_refusal, table_record}
use Rattle.seating.specs.Seat.{seat_refusal, with_seat, seat_record}
use Rattle.seating.proofs.Tables.{table_accepted}
use Rattle.seating.proofs.Seats.{Seven, most-six, seat_accepted, seat_put}
use Rattle.dealing.specs.declared.Deck.{Deck}
use Rattle.dealing.specs.Part.{thirteen_of, dealt, part_refusal, with_part, part_record}
use Rattle.dealing.proofs.Parts.{part_accepted, part_more, part_thirteen, part_filled}
use Rattle.choosing.specs.Choice.{choice_record}

module _ (b : List ℕ) (long : length b ≡ 16) where
  -- byte by byte, with zeros from place n on
  spelled : (n : ℕ) → zero_from n b ≡ true → b ≡ firsts n (each 16 (byte b))
  unfolding zero_from
  spelled n z = sym (firsts_rest n b z) ∙ ap (firsts n) (each_of b 16 long)

  pub table_spelled : byte b 0 ≡ 1 → table_refusal b ≡ 0 → table_record (table_of b) ≡ b
  unfolding table_record gather firsts kept
  table_spelled k e = sym (spelled 8 (table_accepted b e).0 ∙ rw k)

  pub choice_spelled : (k : ℕ) → byte b 0 ≡ 4 → byte b 1 ≡ k + 1 → zero_from 3 b ≡ true → choice_record k (byte b 2) ≡ b
  unfolding choice_record gather firsts kept
  choice_spelled k four seat z = sym (spelled 3 z ∙ rw (four, seat))

  -- no wager is above 100, so its high byte is zero
  pub seat_spelled : (t : Table) (w : Wagers) → Seven w → t.largest ≤ 100 → seat_refusal t w b ≡ 0 → byte b 0 ≡ 2
      → seat_record (with_seat w b) (place (byte b 1)) ≡ b
  unfolding seat_record gather firsts kept
  seat_spelled t w seven high e k =
      let f = seat_accepted t w b e in
      let low : (n : ℕ) → word b n ≤ t.largest → (byte b (n + 1) ≡ 0) × (word b n ≡ byte b n) = λ n h. (omega arith, omega arith) in
      let a = low 2 f.ante_high in
      let d = low 4 f.board in
      let p = low 6 f.pocket in
      let l = low 8 f.lo in
      let s = low 10 (omega (arith, f.six, most-six t)) in
      let at : place (byte b 1) + 1 ≡ byte b 1 = omega (arith, f.low) in
      rw (
        at,
        seat_put t w b e w.antes (word b 2) seven.antes,
        seat_put t w b e w.board (word b 4) seven.board,
        seat_put t w b e w.pocket (word b 6) seven.pocket,
        seat_put t w b e w.lo (word b 8) seven.lo,
        seat_put t w b e w.six (word b 10) seven.six,
        a.1,
        d.1,
        p.1,
        l.1,
        s.1,
      )
      (sym (spelled 12 f.zeros ∙ rw (k, a.0, d.0, p.0, l.0, s.0)))

-- ---- a deck part

-- thirteen cards that lie in the first list
cards_in : (l m : List ℕ) (n : ℕ) → 13 * n + 13 ≤ length l → take 13 (drop (13 * n) (l ++ m)) ≡ take 13 (drop (13 * n) l)
cards_in l m n h = rw (drop-append-le (13 * n) l m (omega arith)) (take-append-le 13 (drop (13 * n) l) m (omega (arith, length-drop (13 * n) l)))

module _ (d : Deck) (b : List ℕ) (cards : length d.cards ≡ 52) (long : length b ≡ 16) (room : d.parts < 4) where
  so_far : length (dealt d) ≡ 13 * d.parts
  so_far = length-take-le (13 * d.parts) d.cards (omega arith)

  abbrev still : List ℕ
  still = drop (13 * d.parts + length (thirteen_of b)) d.cards

  -- the cards before, then the record's
  filled : (with_part d b).cards ≡ dealt d ++ (thirteen_of b ++ still)
  filled =
      ap (λ (x : Deck). x.cards) (part_more d b room) ∙ part_filled d b cards long room
      ∙ append_assoc (dealt d) (thirteen_of b) still

  -- the parts before are as they were
  pub part_before : (n : ℕ) → n < d.parts → part_record (with_part d b) n ≡ part_record d n
  unfolding part_record
  part_before n h =
      let inside : 13 * n + 13 ≤ length (dealt d) = omega (arith, so_far) in
      ap (λ (x : List ℕ). 3 ∷ n ∷ (x ++ (0 ∷ [])))
      (ap (λ (x : List ℕ). take 13 (drop (13 * n) x)) filled
      ∙ cards_in (dealt d) (thirteen_of b ++ still) n inside
      ∙ sym (cards_in (dealt d) (drop (13 * d.parts) d.cards) n inside)
      ∙ ap (λ (x : List ℕ). take 13 (drop (13 * n) x)) (take-append-drop (13 * d.parts) d.cards))

  -- and this one is the record
  pub part_spelled : byte b 0 ≡ 3 → part_refusal d b ≡ 0 → part_record (with_part d b) d.parts ≡ b
  unfolding part_record gather firsts kept
  part_spelled k e =
      let f = part_accepted d b e in
      let own : take 13 (drop (13 * d.parts) (with_part d b).cards) ≡ thirteen_of b =
      rw (filled, drop_at (dealt d) (thirteen_of b ++ still) (13 * d.parts) so_far)
      (take_at (thirteen_of b) still 13 (part_thirteen d b cards long room)) in
      ap (λ (x : List ℕ). 3 ∷ d.parts ∷ (x ++ (0 ∷ []))) (own ∙ ap thirteen_of (each_of b 16 long))
      ∙ sym (spelled b long 15 f.zeros ∙ rw (k, f.part))
