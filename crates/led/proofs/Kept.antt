-- Each round that accepted records lead to passes the test: what the test says of the four parts, and that each kind of record keeps it.
-- Assumes nothing.
use Prim.Native.Nat.{ℕ, ◌+◌, ◌<◌}
use mathlib.Core.Path.{◌≡◌, refl, sym, ap, ◌∙◌}
use mathlib.Core.Bool.{true, ◌&&◌}
use mathlib.Core.List.{List}
use native.Mathlib.Omega.{arith}
use lib.Dec.{eqb}
use lib.ListN.{length}
use borrow.Author.Tests.{eq-eqb, ne_eqb}
use Rattle.counting.proofs.Tests.{and_true, first_holds, second_holds}
use Rattle.records.specs.Seats.{any_plays}
use Rattle.seating.specs.Table.{no_table, table_fits, table_of}
use Rattle.seating.specs.Seat.{seats_fit, with_seat}
use Rattle.seating.proofs.Tables.{table_fresh, table_kept}
use Rattle.seating.proofs.Seats.{Seven, seat_seven, seats_before_table, seat_kept, seats_fresh}
use Rattle.dealing.specs.Part.{deck_fits, with_part}
use Rattle.dealing.proofs.Parts.{part_sized, part_kept, deck_fresh}
use Rattle.choosing.specs.Streets.{streets_over}
use Rattle.choosing.specs.Choice.{with_choice}
use Rattle.choosing.specs.Slots.{play_fits}
use Rattle.choosing.proofs.Allowed.{Sized, choice_sized, play_unopened, play_fresh}
use Rattle.choosing.proofs.Kept.{play_kept}
use Rattle.round.specs.declared.Round.{Round}
use Rattle.round.specs.Order.{fresh_round}
use Rattle.round.specs.Feed.{feed, with_wagers, with_deck, with_play}
use Rattle.led.specs.Led.{is_taken, Leads, Led}
use Rattle.led.specs.Led.Leads.{done, then}
use Rattle.led.specs.Held.{opened, deck_after_seats, is_held}
use Rattle.led.proofs.Took.{Took, took}
use Rattle.led.proofs.Took.Took.{table, seat, part, choice}

-- the lists are as long as the arrays of a round are
pub record Long (r : Round) : Type 0 where
  pub wagers : Seven r.wagers
  pub cards : length r.deck.cards ≡ 52
  pub play : Sized r.play

-- the test, part by part
pub record Fits (r : Round) : Type 0 where
  pub table : table_fits r.table ≡ true
  pub seats : seats_fit r.table r.wagers ≡ true
  pub deck : deck_fits r.deck ≡ true
  pub seated : deck_after_seats r ≡ true
  pub play : play_fits r.wagers.antes r.play (opened r) ≡ true

pub held_fits : (r : Round) → is_held r ≡ true → Fits r
unfolding is_held
held_fits r e =
    let all = and_true (table_fits r.table && seats_fit r.table r.wagers) _ e in
    let sat = and_true (table_fits r.table) (seats_fit r.table r.wagers) all.0 in
    let rest = and_true (deck_fits r.deck && deck_after_seats r) (play_fits r.wagers.antes r.play (opened r)) all.1 in
    let deck = and_true (deck_fits r.deck) (deck_after_seats r) rest.0 in
    record { table = sat.0; seats = sat.1; deck = deck.0; seated = deck.1; play = rest.1 }

pub fits_held : (r : Round) → Fits r → is_held r ≡ true
unfolding is_held
fits_held r f = simp (f.table, f.seats, f.deck, f.seated, f.play)

-- ---- how many streets have opened

pub not_opened : (r : Round) → r.deck.parts < 4 → opened r ≡ 0
not_opened r h = let n : (r.deck.parts ≡ 4 → ⊥) = λ e. omega arith in simp (ne_eqb r.deck.parts 4 n)

pub now_opened : (r : Round) → r.deck.parts ≡ 4 → opened r ≡ streets_over r.wagers.antes r.play + 1
now_opened r e = simp e

-- ---- the fresh round, and what each kind of record keeps

pub fresh_long : Long fresh_round
fresh_long =
    record { wagers = record { antes = refl; board = refl; pocket = refl; lo = refl; six = refl }; cards = refl; play = record { raises = refl; folds = refl } }

pub fresh_fits : Fits fresh_round
fresh_fits =
    record { table = table_fresh; seats = seats_fresh no_table; deck = deck_fresh; seated = refl; play = play_fresh fresh_round.wagers.antes 0 }

pub long_kept : (r : Round) (b : List ℕ) (s : Round) → Long r → Took r b s → Long s
long_kept r b s l (table k h e) = record { wagers = l.wagers; cards = l.cards; play = l.play }
long_kept r b s l (seat k h z e) = record { wagers = seat_seven r.wagers b l.wagers; cards = l.cards; play = l.play }
long_kept r b s l (part k p h e) = record { wagers = l.wagers; cards = part_sized r.deck b ∙ l.cards; play = l.play }
long_kept r b s l (choice k d o e) =
    record { wagers = l.wagers; cards = l.cards; play = choice_sized r.wagers.antes r.play b l.play }

-- before the first street opens there is no choice, whatever the antes are
early : (r : Round) → Fits r → r.deck.parts < 4 → (antes : List ℕ) (o : ℕ) → play_fits antes r.play o ≡ true
early r f h =
    play_unopened r.wagers.antes r.play
    (ap (play_fits r.wagers.antes r.play) (sym (not_opened r h)) ∙ f.play)

fits_kept : (r : Round) (b : List ℕ) (s : Round) → Long r → length b ≡ 16 → Fits r → Took r b s → Fits s
fits_kept r b s l long f (table k h e) =
    record {
      table = table_kept b e;
      seats = seats_before_table r.table (table_of b) r.wagers h f.seats;
      deck = f.deck;
      seated = f.seated;
      play = f.play;
    }
fits_kept r b s l long f (seat k h z e) =
    let w = with_seat r.wagers b in
    record {
      table = f.table;
      seats = seat_kept r.table r.wagers b l.wagers h f.seats e;
      deck = f.deck;
      seated = first_holds (eqb r.deck.parts 0) (any_plays w.antes) (eq-eqb r.deck.parts 0 z);
      play = early r f (omega arith) w.antes (opened (with_wagers r w));
    }
fits_kept r b s l long f (part k p h e) =
    let d = with_part r.deck b in
    record {
      table = f.table;
      seats = f.seats;
      deck = part_kept r.deck b l.cards long h f.deck e;
      seated = second_holds (eqb d.parts 0) (any_plays r.wagers.antes) p;
      play = early r f h r.wagers.antes (opened (with_deck r d));
    }
fits_kept r b s l long f (choice k d o e) =
    let antes = r.wagers.antes in
    let p = with_choice antes r.play b in
    record {
      table = f.table;
      seats = f.seats;
      deck = f.deck;
      seated = f.seated;
      play = ap (play_fits antes p) (now_opened (with_play r p) d)
          ∙ play_kept antes r.play b l.play o (ap (play_fits antes r.play) (sym (now_opened r d)) ∙ f.play) e;
    }

-- an accepted record keeps both
pub taken_fits : (r : Round) (b : List ℕ) → Long r → Fits r → is_taken (feed r b).answer ≡ true → Long (feed r b).round × Fits (feed r b).round
taken_fits r b l f a =
    let t = took r b a in (long_kept r b (feed r b).round l t.1, fits_kept r b (feed r b).round l t.0 f t.1)

-- along any accepted records
pub leads_long : {r s : Round} {l : List (List ℕ)} → Leads r l s → Long r → Long s
leads_long done l = l
leads_long (then {r} b h a k) l = leads_long k (long_kept r b (feed r b).round l (took r b a).1)

pub leads_fits : {r s : Round} {l : List (List ℕ)} → Leads r l s → Long r → Fits r → Fits s
leads_fits done l f = f
leads_fits (then {r} b h a k) l f = let t = taken_fits r b l f a in leads_fits k t.0 t.1

-- of a led round
pub led-long : (r : Round) → Led r → Long r
led-long r l = leads_long l.1 fresh_long

pub led_fits : (r : Round) → Led r → Fits r
led_fits r l = leads_fits l.1 fresh_long fresh_fits

pub led-held : (r : Round) → Led r → is_held r ≡ true
led-held r l = fits_held r (led_fits r l)
