use Rattle.allsix.proofs.Suits.{one_digit}
use Rattle.allsix.proofs.is_one_suit.Goals as goal

pub returns : goal.returns
returns c = λ t is few. one_digit c.args.suits t is few
