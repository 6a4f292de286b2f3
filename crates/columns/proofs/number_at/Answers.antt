use Rattle.columns.specs.Columns.{number_at}
use Rattle.columns.proofs.number_at.Goals as goal

pub returns : goal.returns
unfolding number_at
returns c = simp (c.digit_at-ones.ensures, c.digit_at-tens.ensures, c.digit_at-hundreds.ensures)
