use Rattle.words.proofs.Cards.{no_power, power_of}
use Rattle.words.proofs.word_of.Goals as goal

pub returns-then-rank-lt13 : goal.returns-then-rank-lt13
returns-then-rank-lt13 c = power_of c.args.rank c.if-rank-lt13.true

pub returns : goal.returns
returns c = no_power c.args.rank c.if-rank-lt13.false
