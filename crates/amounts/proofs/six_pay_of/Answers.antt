use Rattle.amounts.specs.Sides.{six_pay_of}
use Rattle.amounts.proofs.six_pay_of.Goals as goal

pub returns : goal.returns
unfolding six_pay_of
returns c = simp (c.six_pay.ensures, c.six_by_word-name.ensures, c.six.ensures, c.deal_of.ensures.offer, c.deal_of.ensures.antes, c.deal_of.ensures.cards)
