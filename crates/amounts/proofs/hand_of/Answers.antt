use Rattle.amounts.specs.Base.{hand_of}
use Rattle.amounts.proofs.hand_of.Goals as goal

pub returns : goal.returns
unfolding hand_of
returns c = simp (c.five_by_word.ensures, c.five.ensures, c.deal_of.ensures.offer, c.deal_of.ensures.antes, c.deal_of.ensures.cards)
