use Rattle.text.proofs.Writes.{puts_both}
use Rattle.text.proofs.Page.put_line.Goals as goal

pub returns : goal.returns
returns g c = puts_both c.put_list.ensures c.put.ensures
