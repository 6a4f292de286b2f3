-- Only a choice finishes a round.
-- Assumes nothing.
use Prim.Native.Nat.{ℕ}
use mathlib.Core.Path.{◌≡◌, sym, ap, ◌∙◌}
use mathlib.Core.Bool.{true, false, not}
use mathlib.Core.List.{List}
use native.Mathlib.Omega.{arith}
use lib.Dec.{eqb}
use borrow.Author.Tests.{ne_eqb, lt-ltb}
use Rattle.counting.proofs.Tests.{clash, and_true, is_false, other_holds}
use Rattle.records.specs.Bytes.{byte}
use Rattle.records.specs.Seats.{any_plays}
use Rattle.seating.specs.Table.{has_table}
use Rattle.seating.proofs.Seats.{seats_need_table}
use Rattle.dealing.specs.Part.{with_part}
use Rattle.choosing.specs.Slots.{play_fits}
use Rattle.choosing.specs.Streets.{no_play, streets_over}
use Rattle.choosing.proofs.Street.{someone_in}
use Rattle.choosing.proofs.Allowed.{no_choices_lem}
use Rattle.round.specs.declared.Round.{Round}
use Rattle.round.specs.Order.{is_playing, is_finished}
use Rattle.round.specs.Feed.{feed, with_deck}
use Rattle.led.specs.Led.{is_taken, Led}
use Rattle.led.proofs.Took.{Took, took}
use Rattle.led.proofs.Took.Took.{table, seat, part, choice}
use Rattle.led.proofs.Kept.{Long, Fits, not_opened, led-long, led_fits}

-- a round whose deck is not whole is not finished
not_dealt : (r : Round) → (r.deck.parts ≡ 4 → ⊥) → is_finished r ≡ false
not_dealt r n = simp (ne_eqb r.deck.parts 4 n)

-- where nobody has chosen and someone plays, the first street is open
first_street : (r : Round) → any_plays r.wagers.antes ≡ true → r.play ≡ no_play → is_playing r ≡ true
first_street r p e =
    let over : streets_over r.wagers.antes r.play ≡ 0 = ap (streets_over r.wagers.antes) e ∙ someone_in r.wagers.antes p in
    lt-ltb (streets_over r.wagers.antes r.play) 3 (omega arith)

not_finished : (r : Round) (b : List ℕ) (s : Round) → Long r → Fits r → Took r b s → (byte b 0 ≡ 4 → ⊥) → is_finished s ≡ false
not_finished r b s l f (table k h e) n =
    not_dealt s λ d.
    let some : (r.deck.parts ≡ 0 → ⊥) = λ z. omega arith in
    let someone = other_holds (eqb r.deck.parts 0) (any_plays r.wagers.antes) f.seated (ne_eqb r.deck.parts 0 some) in
    clash (has_table r.table) (seats_need_table r.table r.wagers f.seats someone) h
not_finished r b s l f (seat k h z e) n = not_dealt s (λ d. omega arith)
not_finished r b s l f (part k p h e) n =
    let antes = r.wagers.antes in
    let none = no_choices_lem antes r.play l.play (ap (play_fits antes r.play) (sym (not_opened r h)) ∙ f.play) in
    let playing = first_street (with_deck r (with_part r.deck b)) p none in
    is_false (is_finished (with_deck r (with_part r.deck b))) λ t.
    clash (not (is_playing (with_deck r (with_part r.deck b)))) (and_true (eqb (with_part r.deck b).parts 4) _ t).1 (simp playing)
not_finished r b s l f (choice k d o e) n = absurd (n k)

-- an accepted record of a led round that is no choice leaves it unfinished
pub finish_by_choice : (r : Round) (b : List ℕ) → Led r → is_taken (feed r b).answer ≡ true → (byte b 0 ≡ 4 → ⊥) → is_finished (feed r b).round ≡ false
finish_by_choice r b l a n = not_finished r b (feed r b).round (led-long r l) (led_fits r l) (took r b a).1 n
