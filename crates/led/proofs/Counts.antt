-- Each accepted record is one more that the round has taken, and a round takes at most 33.
-- Assumes nothing.
use Prim.Native.Nat.{ℕ, ◌+◌, ◌≤◌}
use mathlib.Core.Path.{◌≡◌, ap}
use mathlib.Core.List.{List}
use native.Mathlib.Omega.{arith}
use lib.ListN.{length}
use Rattle.counting.specs.Choose.{one}
use Rattle.counting.proofs.Tests.{one_le}
use Rattle.counting.proofs.Ranges.{tally_le}
use Rattle.records.specs.Seats.{plays}
use Rattle.seating.specs.Table.{has_table}
use Rattle.seating.proofs.Tables.{table_read}
use Rattle.seating.proofs.Seats.{seat_taken, none_seated}
use Rattle.dealing.proofs.Parts.{part_next, parts_le}
use Rattle.choosing.proofs.Taken.{choices_le, choice_taken, none_taken}
use Rattle.round.specs.declared.Round.{Round}
use Rattle.round.specs.Order.{fresh_round}
use Rattle.round.specs.Feed.{feed}
use Rattle.led.specs.Led.{Leads}
use Rattle.led.specs.Led.Leads.{done, then}
use Rattle.led.specs.Records.{records_taken}
use Rattle.led.proofs.Took.{Took, took}
use Rattle.led.proofs.Took.Took.{table, seat, part, choice}
use Rattle.led.proofs.Kept.{Long, long_kept, fresh_long, led_fits}

one_more : (r : Round) (b : List ℕ) (s : Round) → Long r → Took r b s → records_taken s ≡ records_taken r + 1
unfolding records_taken
one_more r b s l (table k h e) = omega (arith, ap one h, ap one (table_read b e))
one_more r b s l (seat k h z e) = omega (arith, seat_taken r.table r.wagers b l.wagers h e)
one_more r b s l (part k p h e) = omega (arith, part_next r.deck b h)
one_more r b s l (choice k d o e) = omega (arith, choice_taken r.wagers.antes r.play b l.play o e)

counts : {r s : Round} {l : List (List ℕ)} → Leads r l s → Long r → records_taken s ≡ records_taken r + length l
counts done l = omega arith
counts (then {r} b h a k) l =
    let t = took r b a in
    let q = (feed r b).round in
    omega (arith, one_more r b q l t.1, counts k (long_kept r b q l t.1))

none_yet : records_taken fresh_round ≡ 0
unfolding records_taken
none_yet = omega (arith, none_seated, none_taken)

-- as many records lead to a round as it has taken
pub led-count : (r : Round) (l : List (List ℕ)) → Leads fresh_round l r → length l ≡ records_taken r
led-count r l k = omega (arith, counts k fresh_long, none_yet)

-- one table, seven seats, four deck parts, three choices a seat
pub at_most_33 : (r : Round) (l : List (List ℕ)) → Leads fresh_round l r → length l ≤ 33
unfolding records_taken
at_most_33 r l k =
    omega (
      arith,
      led-count r l k,
      one_le (has_table r.table),
      tally_le 7 (plays r.wagers.antes),
      parts_le r.deck (led_fits r (l, k)).deck,
      choices_le r.play,
    )
