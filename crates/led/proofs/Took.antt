-- An accepted record is one of four kinds, with its conditions; and a record with the conditions of its kind is accepted.
-- Assumes nothing.
use Prim.Native.Nat.{ℕ, ◌<◌}
use mathlib.Core.Path.{◌≡◌, refl, sym, subst, ◌∙◌}
use mathlib.Core.Bool.{Bool, true, false, not, ◌&&◌}
use mathlib.Core.List.{List}
use lib.Dec.{eqb, ltb}
use lib.ListN.{length}
use borrow.Author.Tests.{eqb-true, eq-eqb, lt-ltb, ltb-true, not-true}
use Rattle.std.specs.Prelude.{if◌then◌else◌}
use Rattle.counting.proofs.Tests.{clash, and_true, passed, pass}
use Rattle.records.specs.Bytes.{byte}
use Rattle.records.specs.Seats.{any_plays}
use Rattle.seating.specs.Table.{has_table, table_of, table_refusal}
use Rattle.seating.specs.Seat.{seat_refusal, with_seat}
use Rattle.dealing.specs.Part.{part_refusal, with_part}
use Rattle.choosing.specs.Streets.{streets_over}
use Rattle.choosing.specs.Choice.{choice_refusal, with_choice}
use Rattle.round.specs.declared.Round.{Round}
use Rattle.round.specs.Order.{is_dealt, is_playing, may_come}
use Rattle.round.specs.Feed.{kind_refusal, refusal, with_table, with_wagers, with_deck, with_play, next, feed, number_of}
use Rattle.round.proofs.Numbers.{feed_number, feed-next}
use Rattle.led.specs.Led.{is_taken}

-- what an accepted record b makes of the round r
pub data Took (r : Round) (b : List ℕ) : Round → Type 0 where
  table : byte b 0 ≡ 1 → has_table r.table ≡ false → table_refusal b ≡ 0 → Took r b (with_table r (table_of b))
  seat : byte b 0 ≡ 2 → has_table r.table ≡ true → r.deck.parts ≡ 0 → seat_refusal r.table r.wagers b ≡ 0
      → Took r b (with_wagers r (with_seat r.wagers b))
  part : byte b 0 ≡ 3 → any_plays r.wagers.antes ≡ true → r.deck.parts < 4 → part_refusal r.deck b ≡ 0
      → Took r b (with_deck r (with_part r.deck b))
  choice : byte b 0 ≡ 4 → r.deck.parts ≡ 4 → streets_over r.wagers.antes r.play < 3
      → choice_refusal r.wagers.antes r.play b ≡ 0 → Took r b (with_play r (with_choice r.wagers.antes r.play b))

-- ---- accepted: no refusal

-- a record is taken exactly where it has no refusal
module _ (r : Round) (b : List ℕ) where
  taken_none : is_taken (feed r b).answer ≡ true → refusal r b ≡ 0
  taken_none a = sym (feed_number r b) ∙ eqb-true (number_of (feed r b).answer) 0 a

  pub none_taken : refusal r b ≡ 0 → is_taken (feed r b).answer ≡ true
  none_taken e = eq-eqb (number_of (feed r b).answer) 0 (feed_number r b ∙ e)

  -- no refusal, test by test
  passes : refusal r b ≡ 0 → (length b ≡ 16) × (may_come r (byte b 0) ≡ true) × (kind_refusal r b ≡ 0)
  unfolding refusal
  passes e =
      let long = passed (eqb (length b) 16) _ _ e in
      let may = passed (may_come r (byte b 0)) _ _ long.1 in
      (eqb-true (length b) 16 long.0, may.0, may.1)

  no_refusal : length b ≡ 16 → may_come r (byte b 0) ≡ true → kind_refusal r b ≡ 0 → refusal r b ≡ 0
  unfolding refusal
  no_refusal long may kind = pass (eqb (length b) 16) _ _ (eq-eqb (length b) 16 long) (pass (may_come r (byte b 0)) _ _ may kind)

  -- ---- by kind
  abbrev Goes : Bool → Bool → Bool → Bool → Type 0
  Goes one two three four = ((if one then not (has_table r.table)
      else if two then has_table r.table && eqb r.deck.parts 0
      else if three then any_plays r.wagers.antes && ltb r.deck.parts 4
      else if four then is_dealt r && is_playing r
      else false) ≡ true)
      → ((if one then table_refusal b
      else if two then seat_refusal r.table r.wagers b
      else if three then part_refusal r.deck b
      else choice_refusal r.wagers.antes r.play b) ≡ 0)
      → Took r b (if one then with_table r (table_of b)
      else if two then with_wagers r (with_seat r.wagers b)
      else if three then with_deck r (with_part r.deck b)
      else with_play r (with_choice r.wagers.antes r.play b))

  goes : (one two three four : Bool) → eqb (byte b 0) 1 ≡ one → eqb (byte b 0) 2 ≡ two → eqb (byte b 0) 3 ≡ three → eqb (byte b 0) 4 ≡ four
      → Goes one two three four
  goes true two three four k l m n may kind = table (eqb-true _ 1 k) (not-true _ may) kind
  goes false true three four k l m n may kind =
      let here = and_true (has_table r.table) (eqb r.deck.parts 0) may in
      seat (eqb-true _ 2 l) here.0 (eqb-true r.deck.parts 0 here.1) kind
  goes false false true four k l m n may kind =
      let here = and_true (any_plays r.wagers.antes) (ltb r.deck.parts 4) may in
      part (eqb-true _ 3 m) here.0 (ltb-true r.deck.parts 4 here.1) kind
  goes false false false true k l m n may kind =
      let here = and_true (is_dealt r) (is_playing r) may in
      choice (eqb-true _ 4 n) (eqb-true r.deck.parts 4 here.0) (ltb-true (streets_over r.wagers.antes r.play) 3 here.1) kind
  goes false false false false k l m n may kind = clash false may refl

  by_kind : may_come r (byte b 0) ≡ true → kind_refusal r b ≡ 0 → Took r b (next r b)
  unfolding may_come kind_refusal next
  by_kind = goes _ _ _ _ refl refl refl refl

  -- an accepted record is 16 bytes, and one of four kinds with its conditions
  pub took : is_taken (feed r b).answer ≡ true → (length b ≡ 16) × Took r b (feed r b).round
  took a =
      let none = taken_none a in
      let p = passes none in
      (p.0, subst (Took r b) (sym (feed-next r b none)) (by_kind p.1 p.2))

-- ---- the other way round: each kind, where its conditions hold

module _ (r : Round) (b : List ℕ) (long : length b ≡ 16) where
  pub table_none : byte b 0 ≡ 1 → has_table r.table ≡ false → table_refusal b ≡ 0 → refusal r b ≡ 0
  unfolding may_come kind_refusal
  table_none k h e = no_refusal r b long (simp (k, h)) (simp k e)

  pub table_next : byte b 0 ≡ 1 → next r b ≡ with_table r (table_of b)
  unfolding next
  table_next k = simp k

  pub seat_none : byte b 0 ≡ 2 → has_table r.table ≡ true → r.deck.parts ≡ 0 → seat_refusal r.table r.wagers b ≡ 0 → refusal r b ≡ 0
  unfolding may_come kind_refusal
  seat_none k h z e = no_refusal r b long (simp (k, h, z)) (simp k e)

  pub seat_next : byte b 0 ≡ 2 → next r b ≡ with_wagers r (with_seat r.wagers b)
  unfolding next
  seat_next k = simp k

  pub part_none : byte b 0 ≡ 3 → any_plays r.wagers.antes ≡ true → r.deck.parts < 4 → part_refusal r.deck b ≡ 0 → refusal r b ≡ 0
  unfolding may_come kind_refusal
  part_none k p h e = no_refusal r b long (simp (k, p, lt-ltb r.deck.parts 4 h)) (simp k e)

  pub part_next : byte b 0 ≡ 3 → next r b ≡ with_deck r (with_part r.deck b)
  unfolding next
  part_next k = simp k

  pub choice_none : byte b 0 ≡ 4 → r.deck.parts ≡ 4 → streets_over r.wagers.antes r.play < 3
      → choice_refusal r.wagers.antes r.play b ≡ 0 → refusal r b ≡ 0
  unfolding may_come kind_refusal
  choice_none k h o e =
      no_refusal r b long (simp (k, h, lt-ltb (streets_over r.wagers.antes r.play) 3 o)) (simp k e)

  pub choice_next : byte b 0 ≡ 4 → next r b ≡ with_play r (with_choice r.wagers.antes r.play b)
  unfolding next
  choice_next k = simp k
