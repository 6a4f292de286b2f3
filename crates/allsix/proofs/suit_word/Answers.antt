use Rattle.allsix.proofs.Suits.{suit_power}
use Rattle.allsix.proofs.suit_word.Goals as goal

pub returns : goal.returns
returns c = rw c.suit_of.ensures (suit_power c.args.card)
