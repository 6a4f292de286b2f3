use Rattle.std.proofs.Common.{rules, arith, ◌≡◌, ◌≤◌, ◌+◌, ◌-◌, length, ap}
use Rattle.writing.proofs.Stores.{stored_none, bytes_of, sets_part}
use Rattle.writing.proofs.put.Goals as goal

pub returns-in_default : goal.returns-in_default
returns-in_default c = stored_none _ _ _ c.in_default.is

pub slice_bounds-copy_from_slice-end : goal.slice_bounds-copy_from_slice-end
slice_bounds-copy_from_slice-end c =
    let long : length c.in-Some.bytes ≡ 16 = search rules in
    omega (arith, ap length (bytes_of _ _ c.in-Some.is), c.requires)

pub returns : goal.returns
returns c =
    let a = c.args in
    let b = c.in-Some.bytes in
    let long : length b ≡ 16 = search rules in
    let e = bytes_of _ _ c.in-Some.is in
    let n : a.at + 16 - a.at ≡ length b = omega arith in
    let room : a.at + (a.at + 16 - a.at) ≤ length a.room.now = omega (arith, ap length e, c.requires) in
    rw e (record { list = sets_part a.room.now a.at (a.at + 16 - a.at) b c.copy_from_slice.new.self c.copy_from_slice.ensures.after n room; end = omega arith })
