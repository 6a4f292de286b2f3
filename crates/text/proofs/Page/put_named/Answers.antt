use Rattle.text.proofs.Writes.{puts_both}
use Rattle.text.proofs.Page.put_named.Goals as goal

pub returns : goal.returns
returns g c = puts_both c.put.ensures c.put_number.ensures
