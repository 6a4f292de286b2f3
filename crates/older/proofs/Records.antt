-- A record that says nothing of All-Six is answered as it was. A record that was taken says nothing of it, and none offered it.
-- Assumes nothing.
use Prim.Native.Nat.{ℕ, zero, suc}
use mathlib.Core.Path.{◌≡◌, refl, ap, sym, ◌∙◌}
use mathlib.Core.Bool.{Bool, true, false, not, ◌&&◌}
use mathlib.Core.List.{List, [], ◌∷◌}
use native.Mathlib.Omega.{arith}
use lib.Dec.{eqb, leb}
use lib.ListN.{length}
use borrow.Author.Tests.{eqb-true, le-leb}
use Rattle.std.specs.Prelude.{if◌then◌else◌}
use Rattle.counting.specs.Count.{every_of}
use Rattle.counting.proofs.Answers.{by_number}
use Rattle.counting.proofs.Tests.{and_true, both, passed}
use Rattle.records.specs.Bytes.{byte, word, zero_from, between}
use Rattle.seating.specs.declared.Table.{Table}
use Rattle.seating.specs.declared.Wagers.{Wagers}
use Rattle.seating.specs.Table.{tables_fit, table_of, table_refusal}
use Rattle.seating.specs.Seat.{most_six, sides_fit, seat_refusal, with_seat}
use Rattle.dealing.specs.Part.{with_part}
use Rattle.choosing.specs.Choice.{with_choice}
use Rattle.round.specs.declared.Round.{Round}
use Rattle.round.specs.Order.{is_finished, may_come}
use Rattle.round.specs.Feed.{kind_refusal, refusal, with_table, with_wagers, with_deck, with_play, next, refused, accepted, feed, number_of}
use Rattle.round.proofs.Numbers.{on_or_finished}
use Rattle.older.specs.Records.{says_nothing, old_table_of, old_tables_fit, old_table_refusal, old_sides_fit, old_seat_refusal, old_with_seat, old_kind_refusal, old_refusal, old_next, old_feed}

-- ---- zeros from a place on are a zero there, and zeros from the next

zeros_on : (n : ℕ) (b : List ℕ) → zero_from n b ≡ (eqb (byte b n) 0 && zero_from (suc n) b)
unfolding zero_from every_of
zeros_on zero [] = refl
zeros_on zero (x ∷ b) = refl
zeros_on (suc n) [] = refl
zeros_on (suc n) (x ∷ b) = zeros_on n b

-- ---- the tests that All-Six adds, where it says nothing

last_true : (x y : Bool) → (x && (y && true)) ≡ (x && y)
last_true x true = refl
last_true x false = refl

four_of_three : (x y z : Bool) → ((x && y) && (z && true)) ≡ (x && (y && z))
four_of_three true y true = refl
four_of_three true y false = refl
four_of_three false y z = refl

module _ (b : List ℕ) where
  -- ---- a table record
  module _ (z : byte b 7 ≡ 0) where
    same_table : table_of b ≡ old_table_of b
    same_table = rw z

    same_tables : tables_fit (old_table_of b) ≡ old_tables_fit (old_table_of b)
    unfolding tables_fit old_tables_fit
    same_tables =
        last_true (between 1 5 (byte b 3) && between 1 2 (byte b 4)) (between 1 4 (byte b 5) && between 1 3 (byte b 6))

    same_table_refusal : table_refusal b ≡ old_table_refusal b
    unfolding table_refusal old_table_refusal
    same_table_refusal = rw (zeros_on 7 b, z, same_tables)

  -- ---- a seat record
  module _ (z : byte b 10 ≡ 0) (y : byte b 11 ≡ 0) where
    same_wagers : (w : Wagers) → with_seat w b ≡ old_with_seat w b
    same_wagers w = rw (z, y)

    same_sides : (t : Table) → sides_fit t (word b 4) (word b 6) (word b 8) (word b 10) ≡ old_sides_fit t (word b 4) (word b 6) (word b 8)
    same_sides t =
        rw (z, y, le-leb 0 (most_six t) (omega arith))
        (four_of_three (leb (word b 4) t.largest) (leb (word b 6) t.largest) (leb (word b 8) t.largest))

    same_seat_refusal : (t : Table) (w : Wagers) → seat_refusal t w b ≡ old_seat_refusal t w b
    unfolding seat_refusal old_seat_refusal
    same_seat_refusal t w = rw (same_sides t) (simp (zeros_on 10 b, zeros_on 11 b, z, y))

  -- ---- any record

  -- what goes by the kind is the same where it is the same of a table record and of a seat record
  by_kind : {A : Type 0} (table old_table seat old_seat other : A) → says_nothing b ≡ true
      → (byte b 7 ≡ 0 → table ≡ old_table)
      → (byte b 10 ≡ 0 → byte b 11 ≡ 0 → seat ≡ old_seat)
      → (if eqb (byte b 0) 1 then table else if eqb (byte b 0) 2 then seat else other)
      ≡ (if eqb (byte b 0) 1 then old_table else if eqb (byte b 0) 2 then old_seat else other)
  unfolding says_nothing
  by_kind {A} table old_table seat old_seat other says f g = go (eqb (byte b 0) 1) (eqb (byte b 0) 2) says
    where
      go : (one two : Bool) → (if one then eqb (byte b 7) 0 else if two then eqb (byte b 10) 0 && eqb (byte b 11) 0 else true) ≡ true
          → ◌≡◌ {A = A} (if one then table else if two then seat else other) (if one then old_table else if two then old_seat else other)
      go true two e = f (eqb-true (byte b 7) 0 e)
      go false true e =
          let zeros = and_true (eqb (byte b 10) 0) (eqb (byte b 11) 0) e in
          g (eqb-true (byte b 10) 0 zeros.0) (eqb-true (byte b 11) 0 zeros.1)
      go false false e = refl

  module _ (r : Round) (says : says_nothing b ≡ true) where
    same_kinds : kind_refusal r b ≡ old_kind_refusal r b
    unfolding kind_refusal old_kind_refusal
    same_kinds =
        by_kind (table_refusal b) (old_table_refusal b) (seat_refusal r.table r.wagers b) (old_seat_refusal r.table r.wagers b) _ says
        same_table_refusal (λ z y. same_seat_refusal z y r.table r.wagers)

    same_refusal : refusal r b ≡ old_refusal r b
    unfolding refusal old_refusal
    same_refusal = rw same_kinds

    same_next : next r b ≡ old_next r b
    unfolding next old_next
    same_next =
        by_kind (with_table r (table_of b)) (with_table r (old_table_of b)) (with_wagers r (with_seat r.wagers b)) (with_wagers r (old_with_seat r.wagers b)) _ says
        (λ z. ap (with_table r) (same_table z)) (λ z y. ap (with_wagers r) (same_wagers z y r.wagers))

    pub same_feed : feed r b ≡ old_feed r b
    unfolding feed old_feed
    same_feed = rw (same_refusal, same_next)

  -- ---- a record that was taken

  module _ (r : Round) where
    table_says : old_table_refusal b ≡ 0 → eqb (byte b 7) 0 ≡ true
    unfolding old_table_refusal
    table_says e = (and_true (eqb (byte b 7) 0) (zero_from 8 b) (sym (zeros_on 7 b) ∙ (passed (zero_from 7 b) _ _ e).0)).0

    seat_says : old_seat_refusal r.table r.wagers b ≡ 0 → (eqb (byte b 10) 0 && eqb (byte b 11) 0) ≡ true
    unfolding old_seat_refusal
    seat_says e =
        let zeros : zero_from 10 b ≡ true = (passed (zero_from 10 b) _ _ e).0 in
        let from10 = and_true (eqb (byte b 10) 0) (zero_from 11 b) (sym (zeros_on 10 b) ∙ zeros) in
        let from11 = and_true (eqb (byte b 11) 0) (zero_from 12 b) (sym (zeros_on 11 b) ∙ from10.1) in
        both (eqb (byte b 10) 0) (eqb (byte b 11) 0) from10.0 from11.0

    pub taken_says : old_refusal r b ≡ 0 → says_nothing b ≡ true
    unfolding old_refusal old_kind_refusal says_nothing
    taken_says e =
        let n2 = passed (eqb (length b) 16) _ _ e in
        let n3 = passed (may_come r (byte b 0)) _ _ n2.1 in
        go (eqb (byte b 0) 1) (eqb (byte b 0) 2) _ n3.1
      where
        go : (one two : Bool) (n : ℕ) → (if one then old_table_refusal b else if two then old_seat_refusal r.table r.wagers b else n) ≡ 0
            → (if one then eqb (byte b 7) 0 else if two then eqb (byte b 10) 0 && eqb (byte b 11) 0 else true) ≡ true
        go true two n e = table_says e
        go false true n e = seat_says e
        go false false n e = refl

    pub old_number : number_of (old_feed r b).answer ≡ old_refusal r b
    unfolding old_feed
    old_number =
        by_number (old_refusal r b) (λ none. if not none then refused (old_refusal r b) r else accepted (old_next r b)) (λ s. number_of s.answer)
        (on_or_finished (is_finished (old_next r b))) refl

    -- no record offered All-Six
    pub still_unoffered : r.table.six ≡ 0 → (old_feed r b).round.table.six ≡ 0
    unfolding old_feed old_next
    still_unoffered z = go (eqb (old_refusal r b) 0) (eqb (byte b 0) 1) (eqb (byte b 0) 2) (eqb (byte b 0) 3)
      where
        go : (none one two three : Bool)
            → (if not none then refused (old_refusal r b) r
            else accepted
            (if one then with_table r (old_table_of b)
            else if two then with_wagers r (old_with_seat r.wagers b)
            else if three then with_deck r (with_part r.deck b)
            else with_play r (with_choice r.wagers.antes r.play b))).round.table.six ≡ 0
        go false one two three = z
        go true true two three = refl
        go true false true three = z
        go true false false true = z
        go true false false false = z
