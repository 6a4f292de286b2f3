use Rattle.amounts.specs.Sides.{board_amount}
use Rattle.results.proofs.amounts_of.Goals as goal

pub returns : goal.returns
unfolding board_amount
returns c = simp (c.six_amount.ensures, c.lo_amount.ensures, c.pocket_amount.ensures, c.handed_back.ensures, c.at-wager.ensures, c.base_amount.ensures, c.requires.1)
