use Rattle.std.proofs.Common.{◌≡◌, map, ◌++◌}
use Rattle.std.specs.Slice.Iter.{chunks_exact_rest, chunks_exact_size}
use Rattle.text.specs.Page.{Puts}
use Rattle.reading.specs.File.{file_records}
use Rattle.digits.specs.Digits.{spelled}
use Rattle.digits.proofs.put_records.Given as goal

abbrev pub invariant-loop-record : goal.invariant-loop-record
invariant-loop-record l =
    let done = map (λ r. r.now) l.yielded in
    let rest = file_records (chunks_exact_rest l.record-iterator) in
    (chunks_exact_size l.record-iterator ≡ 16) × (done ++ rest ≡ file_records l.file) × Puts l.initial.page l.page (spelled done)
