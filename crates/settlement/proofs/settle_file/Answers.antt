use Rattle.reading.proofs.Readings.{read_number, read_held, read_count}
use Rattle.settlement.proofs.Answers.{file_promised}
use Rattle.settlement.proofs.settle_file.Goals as goal

pub settle_reading-requires : goal.settle_reading-requires
settle_reading-requires c = rw c.read_file.ensures (read_held _)

pub returns : goal.returns
returns c = file_promised _ _ _ _ _ (read_number _) (read_count _) (rw c.read_file.ensures at c.settle_reading.ensures)
