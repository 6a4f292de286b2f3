use Rattle.std.proofs.Common.{rules}
use Rattle.amounts.specs.Sides.{pocket_pay_of, pocket_amount}
use Rattle.amounts.proofs.Sides.{back_of}
use Rattle.amounts.proofs.pocket_amount.Goals as goal

pub returns : goal.returns
unfolding pocket_amount
returns c = back_of _ _ (pocket_pay_of c.args.round c.args.k) _ c.amount.ensures.none c.amount.ensures.some (λ said q. search rules)
