use Rattle.std.proofs.Common.{rules, map, [], ◌∷◌, ap, ◌∙◌}
use Rattle.std.proofs.lemmas.List.{map-append}
use Rattle.std.specs.Slice.Iter.{chunks_exact_rest}
use Rattle.text.proofs.Writes.{puts_both, puts_none}
use Rattle.reading.specs.File.{file_records}
use Rattle.digits.specs.Digits.{spelled}
use Rattle.digits.proofs.Spells.{spelled_push, records_more, records_all}
use Rattle.digits.proofs.put_records.Goals as goal

pub loop-record-init : goal.loop-record-init
unfolding spelled
loop-record-init c = (search rules, ap file_records (search rules), puts_none _)

pub loop-record-preserved : goal.loop-record-preserved
loop-record-preserved c =
    let l = c.loop-record in
    let next = c.in-Some.ensures.steps in
    let one = c.in-Some.record.now in
    let later = chunks_exact_rest c.next.new.self in
    let done = map (λ r. r.now) l.yielded in
    let more = map-append (λ r. r.now) l.yielded (c.in-Some.record ∷ []) in (
      next.0 ∙ l.invariant.0,
      rw more (records_more done _ _ l.invariant.1 one later next.1.0 (next.1.1 ∙ l.invariant.0)),
      rw (more, spelled_push done one) (puts_both l.invariant.2 c.put_record.ensures),
    )

pub returns : goal.returns
returns c =
    let l = c.loop-record in
    let none = c.in-None.ensures.steps.1.0 in
    rw (records_all _ _ _ l.invariant.1 (rw l.invariant.0 at none)) at l.invariant.2
