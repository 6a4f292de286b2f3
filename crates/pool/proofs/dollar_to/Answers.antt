use Rattle.std.proofs.Common.{rules, tests}
use Rattle.pool.specs.Standings.{gets_dollar}
use Rattle.pool.proofs.dollar_to.Goals as goal
use Rattle.pool.proofs.dollar_to.Goals.{then-own-ge8, else-own-ge8}

pub returns : goal.returns
unfolding gets_dollar
returns c = elim c.if-own-ge8.branch [ then-own-ge8 w ↦ search (rules, tests) | else-own-ge8 w ↦ search (rules, tests) ]
