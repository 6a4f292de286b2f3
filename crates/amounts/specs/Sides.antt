-- The side wagers. They are settled for every seat that placed one, folded or not. Wagers are dollars, amounts are cents.
-- Assumes nothing.
use Rattle.std.specs.Prelude.{ℕ, get_or}
use Rattle.round.specs.declared.Round.{Round}
use Rattle.holding.specs.Deal.{hole, community, five, six_hand}
use Rattle.names.specs.Board.{name_board}
use Rattle.names.specs.Pocket.{name_pocket}
use Rattle.names.specs.Lo.{name_lo}
use Rattle.allsix.specs.Six.{name_six}
use Rattle.pays.specs.declared.Pay.{Pay}
use Rattle.odds.specs.Pays.{board_pay, pocket_pay, lo_pay, six_pay}
use Rattle.pays.specs.Amounts.{handed_back}

-- what the table's Board pay table says of the community cards, for all seats alike
unfoldable pub board_pay_of : Round → Pay
board_pay_of r = board_pay r.table.board (name_board (community r.table.six r.wagers.antes r.deck.cards))

-- its Pocket pay table of the seat's two cards
unfoldable pub pocket_pay_of : Round → ℕ → Pay
pocket_pay_of r k = pocket_pay r.table.pocket (name_pocket (hole r.table.six r.wagers.antes r.deck.cards k))

-- its Lo Ball pay table of the seat's five
unfoldable pub lo_pay_of : Round → ℕ → Pay
lo_pay_of r k = lo_pay r.table.lo (name_lo (five r.table.six r.wagers.antes r.deck.cards k))

-- its All-Six pay table of the seat's six; where All-Six isn't offered it has none, and nobody a wager on it
unfoldable pub six_pay_of : Round → ℕ → Pay
six_pay_of r k = six_pay r.table.six (name_six (six_hand r.table.six r.wagers.antes r.deck.cards k))

-- what each side wager of the seat hands back
unfoldable pub board_amount : Round → ℕ → ℕ
board_amount r k = handed_back (board_pay_of r) (get_or r.wagers.board k 0)

unfoldable pub pocket_amount : Round → ℕ → ℕ
pocket_amount r k = handed_back (pocket_pay_of r k) (get_or r.wagers.pocket k 0)

unfoldable pub lo_amount : Round → ℕ → ℕ
lo_amount r k = handed_back (lo_pay_of r k) (get_or r.wagers.lo k 0)

unfoldable pub six_amount : Round → ℕ → ℕ
six_amount r k = handed_back (six_pay_of r k) (get_or r.wagers.six k 0)
