-- Reading a file of which only the first bytes are held: it ends as reading the whole file does.
-- Assumes nothing.
use Prim.Native.Nat.{ℕ, ◌+◌, ◌-◌, ◌*◌, ◌/◌, ◌%◌, ◌≤◌, ◌<◌}
use mathlib.Core.Path.{◌≡◌, refl}
use mathlib.Core.Bool.{Bool, true, false, not, ◌&&◌, and-false}
use mathlib.Core.List.{List}
use native.Mathlib.Nat.{add-zero}
use native.Mathlib.Omega.{arith}
use lib.Dec.{eqb, ltb, leb}
use lib.ListN.{length, take, drop}
use lib.Seq.{take_all, length-take-le}
use borrow.Author.Tests.{eqb-true, eqb-false, ne_eqb, ltb-false, le-ltb, leb-true, leb-false}
use Rattle.std.specs.Prelude.{if◌then◌else◌}
use Rattle.records.specs.Bytes.{are_bytes}
use Rattle.round.specs.Order.{fresh_round}
use Rattle.led.specs.Held.{is_held}
use Rattle.led.proofs.Kept.{Fits, fits_held, fresh_fits}
use Rattle.led.proofs.Counts.{at_most_33}
use Rattle.reading.specs.declared.Reading.{Reading}
use Rattle.reading.specs.File.{file_records, stop, read_records, read_file, held_records, or_too_many, read_prefix}
use Rattle.reading.proofs.Records.{records_count, first_bytes, records_bytes, records_split}
use Rattle.reading.proofs.Readings.{records_number, records_fit, records_refused, records_lead, read_count}

-- ---- one too many

-- there is none where there are no more, or one was refused
none_more : (w : Reading) → or_too_many false w ≡ w
none_more w = simp and-false

refused_already : (more : Bool) (w : Reading) → (w.number ≡ 0 → ⊥) → or_too_many more w ≡ w
refused_already more w n = simp (ne_eqb w.number 0 n)

-- ---- the round that is then held, and the number

module _ (first : List ℕ) (after : ℕ) where
  abbrev read : Reading
  read = read_records (file_records first)

  abbrev bytes : ℕ
  bytes = length first + after

  -- what holds where there is an odd tail, where a record comes after those held, and of these holds of the prefix
  prefix_either : (P : Reading → Type 0) → P (stop fresh_round 2 (bytes / 16)) → P (stop read.round 3 read.place) → P read → P (read_prefix first after)
  unfolding read_prefix
  prefix_either P odd beyond held = go (eqb (bytes % 16) 0) (eqb read.number 0 && ltb (length first / 16) (bytes / 16))
    where
      go : (even more : Bool) → P (if not even then stop fresh_round 2 (bytes / 16) else if more then stop read.round 3 read.place else read)
      go true true = beyond
      go true false = held
      go false more = odd

  pub prefix_held : is_held (read_prefix first after).round ≡ true
  prefix_held =
      let fit = records_fit (file_records first) in
      fits_held (read_prefix first after).round (prefix_either (λ w. Fits w.round) fresh_fits fit fit)

  pub prefix_number : (read_prefix first after).number ≤ 15
  prefix_number = prefix_either (λ w. w.number ≤ 15) (omega arith) (omega arith) (records_number (file_records first))

  -- without a refusal nothing comes after
  pub prefix_ends : (read_prefix first after).number ≡ 0 → after ≡ 0
  unfolding read_prefix
  prefix_ends = go (eqb (bytes % 16) 0) refl (eqb read.number 0) refl (ltb (length first / 16) (bytes / 16)) refl
    where
      go : (even : Bool) → eqb (bytes % 16) 0 ≡ even → (none : Bool) → eqb read.number 0 ≡ none → (more : Bool) → ltb (length first / 16) (bytes / 16) ≡ more
          → (if not even then stop fresh_round 2 (bytes / 16) else if none && more then stop read.round 3 read.place else read).number ≡ 0
          → after ≡ 0
      go false e none p more m z = absurd (omega arith)
      go true e false p more m z = absurd (eqb-false read.number 0 p z)
      go true e true p true m z = absurd (omega arith)
      go true e true p false m z = omega (arith, eqb-true (bytes % 16) 0 e, ltb-false (length first / 16) (bytes / 16) m)

-- ---- the whole file

-- no byte comes after
pub prefix_none : (l : List ℕ) → read_prefix l 0 ≡ read_file l
unfolding read_prefix read_file
prefix_none l = rw (add-zero (length l), le-ltb (length l / 16) (length l / 16) (omega arith), none_more)

-- so without a refusal all whole records were read
pub prefix_count : (first : List ℕ) (after : ℕ) → (read_prefix first after).number ≡ 0 → (read_prefix first after).place ≡ (length first + after) / 16
prefix_count first after z =
    let none = prefix_ends first after z in
    rw (none, prefix_none first, add-zero (length first)) (read_count first (rw (none, prefix_none first) at z))

-- as many records as are held are not all accepted, so reading ends among them
module _ (l : List ℕ) (e : are_bytes l ≡ true) (h : 16 * held_records ≤ length l) where
  abbrev first : List ℕ
  first = take (16 * held_records) l

  first-long : length first ≡ 16 * held_records
  first-long = length-take-le (16 * held_records) l h

  one-refused : (read_records (file_records first)).number ≡ 0 → ⊥
  one-refused z =
      let k = records_lead (file_records first) (records_bytes first (first_bytes (16 * held_records) l e)) z in
      omega (arith, at_most_33 (read_records (file_records first)).round (file_records first) k, records_count first, first-long)

  among_first : read_records (file_records l) ≡ read_records (file_records first)
  among_first =
      rw (records_split held_records l h) (records_refused (file_records first) (file_records (drop (16 * held_records) l)) one-refused)

  prefix_more : read_prefix first (length l - 16 * held_records) ≡ read_file l
  unfolding read_prefix read_file
  prefix_more =
      let whole : length first + (length l - 16 * held_records) ≡ length l = omega (arith, first-long) in
      rw (whole, refused_already (ltb (length first / 16) (length l / 16)) (read_records (file_records first)) one-refused, among_first)

pub prefix_whole : (l : List ℕ) → are_bytes l ≡ true → read_prefix (take (16 * held_records) l) (length l - 16 * held_records) ≡ read_file l
prefix_whole l e = go (leb (length l) (16 * held_records)) refl
  where
    go : (t : Bool) → leb (length l) (16 * held_records) ≡ t → read_prefix (take (16 * held_records) l) (length l - 16 * held_records) ≡ read_file l
    go true s =
        let h : length l ≤ 16 * held_records = leb-true (length l) (16 * held_records) s in
        let none : length l - 16 * held_records ≡ 0 = omega arith in
        rw (take_all (16 * held_records) l h, none) (prefix_none l)
    go false s = let h : 16 * held_records < length l = leb-false (length l) (16 * held_records) s in prefix_more l e (omega arith)
