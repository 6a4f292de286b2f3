use Rattle.std.proofs.Common.{rules}
use Rattle.amounts.specs.Sides.{lo_pay_of, lo_amount}
use Rattle.amounts.proofs.Sides.{back_of}
use Rattle.amounts.proofs.lo_amount.Goals as goal

pub returns : goal.returns
unfolding lo_amount
returns c = back_of _ _ (lo_pay_of c.args.round c.args.k) _ c.amount.ensures.none c.amount.ensures.some (λ said q. search rules)
