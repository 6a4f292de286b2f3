use Rattle.std.proofs.Common.{◌≡◌, ◌+◌, ◌-◌, ◌*◌, arith}
use Rattle.dealing.specs.Part.{part_record}
use Rattle.writing.proofs.part_record.Goals as goal

pub returns : goal.returns
unfolding part_record
returns c =
    let n = 13 * c.args.n in
    let thirteen : n + 13 - n ≡ 13 = omega arith in
    rw (c.copy_from_slice.ensures.after, thirteen)
