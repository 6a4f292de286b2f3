use Rattle.text.proofs.Writes.{puts_both}
use Rattle.digits.proofs.put_record.Goals as goal

pub returns : goal.returns
returns c = rw c.trim.ensures at (puts_both c.put.ensures c.put_digits.ensures)
