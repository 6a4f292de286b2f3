-- P1 to P14 hold.
-- Assumes nothing.
use mathlib.Core.Path.{refl}
use Rattle.causes.specs.Refusal.{answered}
use Rattle.counting.specs.Count.{tally, every_below, some_below, count, every_of, total, gather}
use Rattle.cards.specs.Deck.{repeated_at, repeats, faulty}
use Rattle.hands.specs.Hand.{of_rank, of_suit, kinds, flush, rank_on, run, straight, highest, hand_refusal}
use Rattle.names.specs.Five.{five_by, name_five, answer_five}
use Rattle.names.specs.Board.{board_by, name_board, answer_board}
use Rattle.names.specs.Pocket.{ace_face, pocket_by, name_pocket, answer_pocket}
use Rattle.names.specs.Lo.{is_lo, lo_by, name_lo, answer_lo}
use Rattle.odds.specs.Tables.{base_lines, lo_lines, pocket_lines}
use Rattle.odds.specs.Pays.{pay_in, base_pay, pocket_pay, lo_pay}
use Rattle.pool.specs.Pool.{dollars_left, ahead, gets_one, share_of, shares_of, wins_fit, share_refusal, share_list}
use Rattle.cases.specs.Cases.{AllRight, cases}
use Rattle.cases.specs.Cases.AllRight.{done, ◌and◌}

pub all_right : AllRight cases
unfolding tally every_below some_below count every_of total gather repeated_at repeats faulty of_rank of_suit kinds flush rank_on run straight highest hand_refusal answered five_by name_five answer_five board_by name_board answer_board ace_face pocket_by name_pocket answer_pocket is_lo lo_by name_lo answer_lo base_lines lo_lines pocket_lines pay_in base_pay pocket_pay lo_pay dollars_left ahead gets_one share_of shares_of wins_fit share_refusal share_list
all_right =
    refl and refl and refl and refl and refl and refl and refl and refl
    and refl and refl and refl and refl and refl and refl and refl and refl
    and refl and refl and refl and refl and refl and refl and refl and done
