-- A finished round has all three community cards, so a folded seat's side wagers are still settled: a round in which both seats fold on street
-- one, and what their side wagers hand back.
-- Assumes nothing.
use mathlib.Core.Path.{◌≡◌, refl}
use mathlib.Core.Bool.{true}
use mathlib.Core.List.{[], ◌∷◌}
use lib.ListN.{replicate}
use Rattle.counting.specs.Count.{tally, every_below, some_below, count, every_of}
use Rattle.cards.specs.Deck.{repeated_at, repeats, faulty}
use Rattle.records.specs.Bytes.{zero_from}
use Rattle.records.specs.Seats.{any_plays}
use Rattle.hands.specs.Hand.{of_rank, of_suit, kinds, flush, rank_on, run, straight, highest}
use Rattle.names.specs.Five.{five_by, name_five}
use Rattle.names.specs.Board.{board_by, name_board}
use Rattle.names.specs.Pocket.{pocket_by, name_pocket}
use Rattle.names.specs.Lo.{is_lo, lo_by, name_lo}
use Rattle.allsix.specs.Six.{without, higher, best_up_to, six_royal, name_six}
use Rattle.odds.specs.Tables.{lo_lines, board_lines, pocket_lines, six_lines}
use Rattle.odds.specs.Pays.{pay_in, lo_pay, board_pay, pocket_pay, six_pay}
use Rattle.seating.specs.Table.{limits_fit, tables_fit, is_blank, table_fits}
use Rattle.seating.specs.Seat.{no_wager, most_six, wagers_fit, seats_fit}
use Rattle.dealing.specs.Part.{deck_fits}
use Rattle.choosing.specs.Streets.{is_open, streets_over}
use Rattle.choosing.specs.Slots.{slot_fits, street_fits, play_fits}
use Rattle.round.specs.declared.Round.{Round}
use Rattle.round.specs.Order.{is_finished}
use Rattle.led.specs.Held.{is_held}
use Rattle.holding.specs.Deal.{playing_before, dealers_first, community_at, hole, community, five, six_card, six_hand}
use Rattle.amounts.specs.Sides.{board_pay_of, pocket_pay_of, lo_pay_of, six_pay_of, board_amount, pocket_amount, lo_amount, six_amount}

-- The community cards are a two, a three and a four, the All-Six card an ace; seat 1 has a pair of aces, seat 2 a nine and a seven.
unfoldable pub folded_round : Round
folded_round =
    record {
      table = record { smallest = 5; largest = 100; base = 1; lo = 1; board = 1; pocket = 1; six = 1 };
      wagers = record {
        antes = 5 ∷ 5 ∷ replicate 5 0;
        board = 5 ∷ 5 ∷ replicate 5 0;
        pocket = 5 ∷ 0 ∷ replicate 5 0;
        lo = 0 ∷ 10 ∷ replicate 5 0;
        six = 10 ∷ 0 ∷ replicate 5 0;
      };
      deck = record {
        cards = 1 ∷ 6 ∷ 11 ∷ 50 ∷ 48 ∷ 49 ∷ 28 ∷ 20
            ∷ 0 ∷ 2 ∷ 3 ∷ 4 ∷ 5 ∷ 7 ∷ 8 ∷ 9 ∷ 10 ∷ 12 ∷ 13 ∷ 14 ∷ 15 ∷ 16 ∷ 17 ∷ 18 ∷ 19
            ∷ 21 ∷ 22 ∷ 23 ∷ 24 ∷ 25 ∷ 26 ∷ 27 ∷ 29 ∷ 30 ∷ 31 ∷ 32 ∷ 33 ∷ 34 ∷ 35 ∷ 36 ∷ 37 ∷ 38
            ∷ 39 ∷ 40 ∷ 41 ∷ 42 ∷ 43 ∷ 44 ∷ 45 ∷ 46 ∷ 47 ∷ 51 ∷ [];
        parts = 4;
      };
      play = record { raises = replicate 21 0; folds = 1 ∷ 1 ∷ replicate 5 0 };
    }

-- it may be held, so accepted records lead to it, and it is finished
pub folded_held : (is_held folded_round ≡ true) × (is_finished folded_round ≡ true)
unfolding folded_round is_held limits_fit tables_fit is_blank table_fits no_wager most_six wagers_fit seats_fit deck_fits faulty repeats repeated_at zero_from any_plays is_open streets_over slot_fits street_fits play_fits every_below some_below every_of
folded_held = (refl, refl)

-- the Board, a straight, pays 6 to 1, the aces 25, the nine high 15, and the three aces of All-Six 5
pub folded_sides : (board_amount folded_round 0 ≡ 3500) × (pocket_amount folded_round 0 ≡ 13000) × (lo_amount folded_round 1 ≡ 16000) × (six_amount folded_round 0 ≡ 6000)
unfolding folded_round tally every_below some_below count of_rank of_suit kinds flush rank_on run straight highest five_by name_five board_by name_board pocket_by name_pocket is_lo lo_by name_lo without higher best_up_to six_royal name_six lo_lines board_lines pocket_lines six_lines pay_in lo_pay board_pay pocket_pay six_pay playing_before dealers_first community_at hole community five six_card six_hand board_pay_of pocket_pay_of lo_pay_of six_pay_of board_amount pocket_amount lo_amount six_amount
folded_sides = (refl, refl, refl, refl)
