use Rattle.reading.proofs.Prefix.{prefix_held, prefix_number, prefix_count}
use Rattle.settlement.proofs.Answers.{file_promised}
use Rattle.settlement.proofs.settle_prefix.Goals as goal

pub settle_reading-requires : goal.settle_reading-requires
settle_reading-requires c = rw c.read_prefix.ensures (prefix_held _ _)

pub returns : goal.returns
returns c = file_promised _ _ _ _ _ (prefix_number _ _) (prefix_count _ _) (rw c.read_prefix.ensures at c.settle_reading.ensures)
