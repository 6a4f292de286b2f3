use Rattle.amounts.specs.Sides.{pocket_pay_of}
use Rattle.amounts.proofs.pocket_pay_of.Goals as goal

pub returns : goal.returns
unfolding pocket_pay_of
returns c = simp (c.pocket_pay.ensures, c.pocket_by_word-name.ensures, c.hole.ensures, c.deal_of.ensures.offer, c.deal_of.ensures.antes, c.deal_of.ensures.cards)
