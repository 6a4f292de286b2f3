use Rattle.amounts.specs.Base.{base_wager}
use Rattle.amounts.proofs.base_wager.Goals as goal

pub returns : goal.returns
unfolding base_wager
returns c = simp (c.with_raises.ensures, c.raise_on-3.ensures, c.raise_on-2.ensures, c.raise_on.ensures, c.at-ante.ensures)
