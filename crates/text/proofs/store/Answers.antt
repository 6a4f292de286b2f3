use Rattle.std.proofs.Common.{rules, arith, ◌≡◌, ◌+◌, ◌-◌, sym}
use Rattle.text.specs.Text.{behind}
use Rattle.text.proofs.Writes.{write_past, write_part}
use Rattle.text.proofs.store.Goals as goal

pub returns-then-room-at : goal.returns-then-room-at
unfolding behind
returns-then-room-at c = record { place = search rules; text = sym (write_past c.args.bytes.now _ _ c.if-room-at.true) }

pub returns : goal.returns
unfolding behind
returns c =
    let at = c.args.at in
    let n = c.min-many.result in
    let back : at + n - at ≡ n = omega arith in record {
      place = search rules;
      text = simp (c.copy_from_slice.ensures.after, back) (write_part c.args.room.now c.args.bytes.now at n c.if-room-at.false c.min-many.ensures);
    }
