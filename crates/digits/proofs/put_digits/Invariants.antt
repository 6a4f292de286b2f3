use lib.ListN.{take}
use Rattle.text.specs.Page.{Puts}
use Rattle.digits.specs.Digits.{hexes}
use Rattle.digits.proofs.put_digits.Given as goal

abbrev pub invariant-loop-byte : goal.invariant-loop-byte
invariant-loop-byte l = Puts l.initial.page l.page (hexes (take l.byte-index l.bytes))
