use Rattle.results.specs.Results.{pool}
use Rattle.results.proofs.judge.Goals as goal

pub returns : goal.returns
unfolding pool
returns c = simp (c.board_pay_of-board.ensures, c.pool_of-pool.ensures, c.maximum_of.ensures, c.bases_of-bases.ensures)
