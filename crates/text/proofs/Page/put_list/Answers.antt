use Rattle.text.specs.Text.{listed}
use Rattle.text.proofs.Writes.{puts_both, puts_none}
use Rattle.text.proofs.Lists.{listed_more, listed_all}
use Rattle.text.proofs.Page.put_list.Goals as goal

pub loop-number-init : goal.loop-number-init
unfolding listed
loop-number-init g c = puts_none _

pub loop-number-preserved : goal.loop-number-preserved
loop-number-preserved g c =
    let l = c.loop-number in
    let more = listed_more g.T.Number.value c.args.numbers.now l.number-index c.number-item.result c.number-item.is c.loop-number-test.true in
    rw more (puts_both l.invariant c.put_named.ensures)

pub returns : goal.returns
returns g c =
    let l = c.loop-number in
    let all = listed_all g.T.Number.value c.args.numbers.now l.number-index c.loop-number-test.false in
    puts_both c.put.ensures (rw all at l.invariant)
