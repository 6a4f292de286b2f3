use Rattle.text.proofs.Writes.{puts_both, puts_none}
use Rattle.digits.specs.Digits.{hexes}
use Rattle.digits.proofs.Spells.{hexes_more, hexes_all}
use Rattle.digits.proofs.put_digits.Goals as goal

pub loop-byte-init : goal.loop-byte-init
unfolding hexes
loop-byte-init c = puts_none _

pub loop-byte-preserved : goal.loop-byte-preserved
loop-byte-preserved c =
    let l = c.loop-byte in
    rw (hexes_more c.args.bytes.now l.byte-index c.loop-byte-test.true) (puts_both l.invariant c.put_hex.ensures)

pub returns : goal.returns
returns c = rw (hexes_all c.args.bytes.now c.loop-byte.byte-index c.loop-byte-test.false) at c.loop-byte.invariant
