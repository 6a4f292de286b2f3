use Rattle.std.proofs.Common.{rules}
use Rattle.amounts.specs.Sides.{six_pay_of, six_amount}
use Rattle.amounts.proofs.Sides.{back_of}
use Rattle.amounts.proofs.six_amount.Goals as goal

pub returns : goal.returns
unfolding six_amount
returns c = back_of _ _ (six_pay_of c.args.round c.args.k) _ c.amount.ensures.none c.amount.ensures.some (λ said q. search rules)
