-- The whole round of document 01, and the same with lower raises: the records of its file lead to it, it is finished, and these are its
-- results and its pool. As many seats have a win in the pool as may; in the one the royal flush is paid exactly its floor, in the other
-- the straight flush is.
-- Assumes nothing.
use Prim.Native.Nat.{ℕ, ◌%◌}
use mathlib.Core.Path.{◌≡◌, refl}
use mathlib.Core.Bool.{Bool, true}
use mathlib.Core.List.{List, ◌∷◌}
use lib.ListN.{length, replicate}
use Rattle.counting.specs.Count.{tally, every_below, some_below, count, every_of, total, gather}
use Rattle.cards.specs.Deck.{repeated_at, repeats, faulty}
use Rattle.records.specs.Bytes.{zero_from}
use Rattle.records.specs.Seats.{any_plays}
use Rattle.hands.specs.Hand.{of_rank, of_suit, kinds, flush, rank_on, run, straight, highest}
use Rattle.names.specs.Top.{is_royal}
use Rattle.names.specs.Five.{five_by, name_five}
use Rattle.names.specs.Board.{board_by, name_board}
use Rattle.names.specs.Pocket.{ace_face, pocket_by, name_pocket}
use Rattle.names.specs.Lo.{is_lo, lo_by, name_lo}
use Rattle.odds.specs.Tables.{base_lines, lo_lines, board_lines, pocket_lines}
use Rattle.odds.specs.Pays.{pay_in, base_pay, lo_pay, board_pay, pocket_pay, six_pay}
use Rattle.pool.specs.Pool.{dollars_left, ahead, gets_one, share_of, shares_of, wins_fit, share_refusal, pool_of}
use Rattle.seating.specs.Table.{limits_fit, tables_fit, is_blank, table_fits, table_record}
use Rattle.seating.specs.Seat.{no_wager, most_six, wagers_fit, seats_fit, seat_record}
use Rattle.dealing.specs.Part.{deck_fits, part_record}
use Rattle.choosing.specs.Streets.{has_chosen, is_open, streets_over}
use Rattle.choosing.specs.Choice.{choice_record}
use Rattle.choosing.specs.Slots.{slot_fits, street_fits, play_fits}
use Rattle.round.specs.declared.Round.{Round}
use Rattle.round.specs.Order.{fresh_round, is_finished}
use Rattle.led.specs.Led.{Leads}
use Rattle.led.specs.Held.{is_held}
use Rattle.led.specs.Records.{records_of}
use Rattle.led.proofs.Kept.{Long, held_fits}
use Rattle.led.proofs.Written.{written}
use Rattle.reading.specs.File.{file_records}
use Rattle.reading.specs.Joined.{joined}
use Rattle.reading.proofs.Records.{records_joined}
use Rattle.reading.proofs.Readings.{leads_whole}
use Rattle.holding.specs.Deal.{playing_before, dealers_first, community_at, hole, community, five}
use Rattle.amounts.specs.Base.{base_wager, hand_of, base_pay_of, pooled, win, kept, wins}
use Rattle.amounts.specs.Sides.{board_pay_of, pocket_pay_of, lo_pay_of, six_pay_of, board_amount, pocket_amount, lo_amount, six_amount}
use Rattle.results.specs.Results.{pool, base_amount, seat_amounts, results}
use Rattle.demands.specs.Floor.{floor_of, paid_of, most_pooled}
use Rattle.demands.specs.Whole.{whole_file, whole_round, lower_file, lower_round}

-- the records of a round's own file lead to it
own_leads : (file : List ℕ) (r : Round) → Long r → is_held r ≡ true → file ≡ joined (records_of r) → Leads fresh_round (file_records file) r
own_leads file r long held bytes =
    let own = written r long (held_fits r held) in
    rw (bytes, records_joined (records_of r) (leads_whole own)) own

-- ---- the whole round

pub whole_held : is_held whole_round ≡ true
unfolding whole_round is_held limits_fit tables_fit is_blank table_fits no_wager most_six wagers_fit seats_fit deck_fits faulty repeats repeated_at zero_from any_plays is_open streets_over slot_fits street_fits play_fits every_below some_below every_of
whole_held = refl

pub whole_even : length whole_file % 16 ≡ 0
unfolding whole_file
whole_even = refl

-- the bytes of the file are those of the round's own records
whole_bytes : whole_file ≡ joined (records_of whole_round)
unfolding whole_file whole_round gather table_record seat_record part_record has_chosen choice_record records_of joined
whole_bytes = refl

whole_long : Long whole_round
unfolding whole_round
whole_long =
    record { wagers = record { antes = refl; board = refl; pocket = refl; lo = refl; six = refl }; cards = refl; play = record { raises = refl; folds = refl } }

pub whole_leads : Leads fresh_round (file_records whole_file) whole_round
whole_leads = own_leads whole_file whole_round whole_long whole_held whole_bytes

pub whole_finished : is_finished whole_round ≡ true
unfolding whole_round is_open streets_over some_below
whole_finished = refl

-- two seats have a win in the pool, and the third demand allows no more
pub whole_pooled : tally 7 (pooled whole_round) ≡ most_pooled
unfolding whole_round tally every_below some_below count of_rank of_suit flush rank_on run straight five_by name_five base_lines pay_in base_pay playing_before dealers_first community_at hole community five hand_of base_pay_of pooled
whole_pooled = refl

whole_wins : wins whole_round ≡ 500000 ∷ 100000 ∷ replicate 5 0
unfolding whole_round tally every_below some_below count gather of_rank of_suit flush rank_on run straight five_by name_five base_lines pay_in base_pay playing_before dealers_first community_at hole community five base_wager hand_of base_pay_of pooled win wins
whole_wins = refl

-- the pool in dollars, full and as paid, and its shares
pub whole_pool : pool whole_round ≡ record { number = 0; full = 600000; paid = 25000; shares = 20833 ∷ 4167 ∷ replicate 5 0 }
unfolding whole_round total tally every_of gather dollars_left ahead gets_one share_of shares_of wins_fit share_refusal pool_of pool
whole_pool = rw whole_wins

pub whole_results : results whole_round ≡ 2183300 ∷ 20500 ∷ 10500 ∷ 0 ∷ 0 ∷ 516700 ∷ replicate 29 0
unfolding whole_round tally every_below some_below count gather of_rank of_suit kinds flush rank_on run straight highest five_by name_five board_by name_board ace_face pocket_by name_pocket is_lo lo_by name_lo base_lines lo_lines board_lines pocket_lines pay_in base_pay lo_pay board_pay pocket_pay playing_before dealers_first community_at hole community five base_wager hand_of base_pay_of pooled win kept board_pay_of pocket_pay_of lo_pay_of board_amount pocket_amount lo_amount six_pay six_pay_of six_amount base_amount seat_amounts results
whole_results = rw whole_pool

abbrev royal_at : Round → ℕ → Bool
royal_at r k = is_royal (hand_of r k)

-- the royal flush is paid its floor and no more, the straight flush a dollar above its own
pub whole_floors : (floor_of whole_round.table (royal_at whole_round 0) (win whole_round 0) ≡ 20833) × (paid_of whole_round (results whole_round) 0 ≡ 2083300)
    × (floor_of whole_round.table (royal_at whole_round 1) (win whole_round 1) ≡ 4166) × (paid_of whole_round (results whole_round) 1 ≡ 416700)
unfolding whole_round tally every_below some_below count of_rank of_suit flush rank_on run straight five_by name_five base_lines pay_in base_pay playing_before dealers_first community_at hole community five base_wager hand_of base_pay_of pooled win floor_of paid_of
whole_floors = (refl, rw whole_results, refl, rw whole_results)

-- ---- the same with lower raises

lower_held : is_held lower_round ≡ true
unfolding lower_round whole_round is_held limits_fit tables_fit is_blank table_fits no_wager most_six wagers_fit seats_fit deck_fits faulty repeats repeated_at zero_from any_plays is_open streets_over slot_fits street_fits play_fits every_below some_below every_of
lower_held = refl

pub lower_even : length lower_file % 16 ≡ 0
unfolding lower_file whole_file
lower_even = refl

lower_bytes : lower_file ≡ joined (records_of lower_round)
unfolding lower_file whole_file lower_round whole_round gather table_record seat_record part_record has_chosen choice_record records_of joined
lower_bytes = refl

lower_long : Long lower_round
unfolding lower_round whole_round
lower_long =
    record { wagers = record { antes = refl; board = refl; pocket = refl; lo = refl; six = refl }; cards = refl; play = record { raises = refl; folds = refl } }

pub lower_leads : Leads fresh_round (file_records lower_file) lower_round
lower_leads = own_leads lower_file lower_round lower_long lower_held lower_bytes

pub lower_finished : is_finished lower_round ≡ true
unfolding lower_round whole_round is_open streets_over some_below
lower_finished = refl

lower_wins : wins lower_round ≡ 500000 ∷ 80000 ∷ replicate 5 0
unfolding lower_round whole_round tally every_below some_below count gather of_rank of_suit flush rank_on run straight five_by name_five base_lines pay_in base_pay playing_before dealers_first community_at hole community five base_wager hand_of base_pay_of pooled win wins
lower_wins = refl

lower_pool : pool lower_round ≡ record { number = 0; full = 580000; paid = 25000; shares = 21552 ∷ 3448 ∷ replicate 5 0 }
unfolding lower_round whole_round total tally every_of gather dollars_left ahead gets_one share_of shares_of wins_fit share_refusal pool_of pool
lower_pool = rw lower_wins

-- here the straight flush is paid its floor and no more
pub lower_floor : (floor_of lower_round.table (royal_at lower_round 1) (win lower_round 1) ≡ 3448) × (paid_of lower_round (results lower_round) 1 ≡ 344800)
unfolding lower_round whole_round tally every_below some_below count gather of_rank of_suit flush rank_on run straight five_by name_five base_lines pay_in base_pay playing_before dealers_first community_at hole community five base_wager hand_of base_pay_of pooled win kept base_amount seat_amounts results floor_of paid_of
lower_floor = (refl, rw lower_pool)
