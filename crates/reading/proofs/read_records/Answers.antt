use Rattle.std.proofs.Common.{sym}
use Rattle.reading.proofs.Readings.{going_first, going_ends, going_stops, going_on}
use Rattle.reading.proofs.read_records.Goals as goal

pub loop-place-init : goal.loop-place-init
loop-place-init c = going_first _ _ c.into_iter-place-iterator.result c.fresh-round.ensures (cc) (cc) (cc)

pub returns-in-Err : goal.returns-in-Err
returns-in-Err c =
    let i = c.loop-place in
    rw c.number.ensures
    (sym (going_stops _ _ i.place-iterator c.next.new.self i.invariant _ c.in-Some.record c.in-Some.ensures.steps c.in-Err.refusal c.in-Err.ensures))

pub loop-place-preserved : goal.loop-place-preserved
loop-place-preserved c =
    let i = c.loop-place in
    rw c.next-round.ensures
    (going_on _ _ i.place-iterator c.next.new.self i.invariant _ c.in-Some.record c.in-Some.ensures.steps (sym c.in_default.ensures))

pub returns : goal.returns
returns c = sym (going_ends _ _ c.loop-place.place-iterator c.next.new.self c.loop-place.invariant c.in-None.ensures.steps)
