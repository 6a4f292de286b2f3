use Rattle.amounts.specs.Sides.{board_pay_of}
use Rattle.amounts.proofs.board_pay_of.Goals as goal

pub returns : goal.returns
unfolding board_pay_of
returns c = simp (c.board_pay.ensures, c.board_by_word-name.ensures, c.community.ensures, c.deal_of.ensures.offer, c.deal_of.ensures.antes, c.deal_of.ensures.cards)
