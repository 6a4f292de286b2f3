-- The four kinds of record, one after the other, fill a room that is as long as the file.
-- Assumes nothing.
use Prim.Native.Nat.{ℕ, ◌+◌, ◌≤◌}
use mathlib.Core.Path.{◌≡◌, ap, sym, ◌∙◌}
use mathlib.Core.List.{List, ◌++◌, append_assoc}
use native.Mathlib.Omega.{arith}
use lib.ListN.{length, length-append}
use Rattle.counting.proofs.Stores.{sets_all}
use Rattle.round.specs.declared.Round.{Round}
use Rattle.led.specs.Records.{table_records, seat_records, part_records, choice_records, records_of}
use Rattle.reading.specs.Joined.{joined}
use Rattle.reading.proofs.Records.{joined-append}
use Rattle.writing.specs.Write.{file_of}
use Rattle.writing.proofs.Stores.{Stored, stored_long, stored_then}

module _ (r : Round) where
  abbrev table : List ℕ
  table = joined (table_records r)

  abbrev seats : List ℕ
  seats = joined (seat_records r)

  abbrev parts : List ℕ
  parts = joined (part_records r)

  abbrev choices : List ℕ
  choices = joined (choice_records r)

  file_parts : file_of r ≡ table ++ (seats ++ (parts ++ choices))
  unfolding file_of records_of
  file_parts =
      joined-append (table_records r) (seat_records r ++ (part_records r ++ choice_records r))
      ∙ ap (λ (l : List ℕ). table ++ l)
      (joined-append (seat_records r) (part_records r ++ choice_records r)
      ∙ ap (λ (l : List ℕ). seats ++ l) (joined-append (part_records r) (choice_records r)))

  parts_long : length (file_of r) ≡ length table + (length seats + (length parts + length choices))
  parts_long =
      ap length file_parts
      ∙ omega (
        arith,
        length-append table (seats ++ (parts ++ choices)),
        length-append seats (parts ++ choices),
        length-append parts choices,
      )

  module _ (lent : List ℕ) (long : length lent ≡ length (file_of r)) where
    pub table_room : 0 + length table ≤ length lent
    table_room = omega (arith, parts_long)

    module _ (one : List ℕ) (x : ℕ) (s : Stored lent 0 table one x) where
      pub seats_room : x + length seats ≤ length one
      seats_room = omega (arith, parts_long, stored_long lent 0 table one x s, s.end)

      module _ (two : List ℕ) (y : ℕ) (t : Stored one x seats two y) where
        pub parts_room : y + length parts ≤ length two
        parts_room = omega (arith, parts_long, stored_long lent 0 table one x s, s.end, stored_long one x seats two y t, t.end)

        module _ (three : List ℕ) (z : ℕ) (u : Stored two y parts three z) where
          before : Stored lent 0 ((table ++ seats) ++ parts) three z
          before = stored_then lent 0 (table ++ seats) two y parts three z (stored_then lent 0 table one x seats two y s t) u

          pub choices_room : z + length choices ≤ length three
          choices_room =
              omega (
                arith,
                parts_long,
                stored_long lent 0 ((table ++ seats) ++ parts) three z before,
                before.end,
                length-append (table ++ seats) parts,
                length-append table seats,
              )

          pub all_stored : (four : List ℕ) (w : ℕ) → Stored three z choices four w → four ≡ file_of r
          all_stored four w v =
              let all = stored_then lent 0 ((table ++ seats) ++ parts) three z choices four w before v in
              let whole : ((table ++ seats) ++ parts) ++ choices ≡ file_of r =
              append_assoc (table ++ seats) parts choices ∙ append_assoc table seats (parts ++ choices) ∙ sym file_parts in
              all.list ∙ rw whole (sets_all lent (file_of r) long)
