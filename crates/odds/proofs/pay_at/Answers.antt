use borrow.Author.Rules.{rules}
use Rattle.odds.proofs.Lines.{no_line}
use Rattle.odds.proofs.pay_at.Goals as goal

pub returns-in-None : goal.returns-in-None
returns-in-None g c = no_line c.args.lines.now c.args.table c.args.place (search rules)
