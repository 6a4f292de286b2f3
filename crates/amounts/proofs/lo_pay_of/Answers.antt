use Rattle.amounts.specs.Sides.{lo_pay_of}
use Rattle.amounts.proofs.lo_pay_of.Goals as goal

pub returns : goal.returns
unfolding lo_pay_of
returns c = simp (c.lo_pay.ensures, c.lo_by_word-name.ensures, c.five.ensures, c.deal_of.ensures.offer, c.deal_of.ensures.antes, c.deal_of.ensures.cards)
