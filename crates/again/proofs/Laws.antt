-- What a pad holds and what it files: reading what was written gives the same round, what was read is written again but for the order of choices within a
-- street, and whichever of them is settled, the answer is the same.
-- Assumes nothing.
use Prim.Native.Nat.{ℕ}
use mathlib.Core.Path.{◌≡◌, refl, ap, ap₂, sym, ◌∙◌}
use mathlib.Core.Bool.{Bool, true, false, not}
use mathlib.Core.List.{List}
use native.Mathlib.Omega.{arith}
use lib.Dec.{eqb}
use lib.ListN.{length}
use Rattle.std.specs.Prelude.{if◌then◌else◌}
use Rattle.records.specs.Bytes.{are_bytes}
use Rattle.round.specs.declared.Round.{Round}
use Rattle.led.specs.Led.{Led}
use Rattle.led.specs.Held.{is_held}
use Rattle.led.specs.Records.{records_of, records_taken}
use Rattle.led.proofs.Kept.{led-held}
use Rattle.led.proofs.Counts.{led-count}
use Rattle.held.specs.Take.{Decides}
use Rattle.reading.specs.declared.Reading.{Reading}
use Rattle.reading.specs.File.{stop, file_records, read_file}
use Rattle.reading.proofs.Records.{records_count, records_joined}
use Rattle.reading.proofs.Readings.{leads_whole, joined_read, read_count, read_even, read_leads}
use Rattle.writing.specs.Write.{file_of, write_answer, write_list}
use Rattle.causes.specs.Refusal.{number_of}
use Rattle.writing.proofs.Files.{own_lead, file_long_lem}
use Rattle.writing.proofs.Answers.{write_done}
use Rattle.results.specs.Results.{results_long}
use Rattle.settlement.specs.Settle.{settle_refusal, settle_answer, settle_list, settle_number, settle_pool, read_refusal, read_answer, read_list, file_answer, file_list, file_number, file_pool}
use Rattle.settlement.proofs.Answers.{settle_number_lem, settle_pool_lem, file_number_lem, file_pool_lem}
use Rattle.again.specs.Again.{SameButOrder}
use Rattle.again.proofs.Streets.{same_round}

-- ---- a round, written and read

-- reading what was written gives the same held round
pub read_back : (r : Round) → Led r → read_file (file_of r) ≡ stop r 0 (records_taken r)
unfolding file_of
read_back r l = joined_read (records_of r) r (own_lead r l) ∙ ap (stop r 0) (led-count r (records_of r) (own_lead r l))

-- so the room that the entry has written is read
pub room_read_back : (r : Round) (lent : List ℕ) → Decides r (is_held r) → number_of (write_answer r (length lent)) ≡ 0
    → read_file (write_list r lent) ≡ stop r 0 (records_taken r)
room_read_back r lent d z = let w = write_done r lent d z in rw w.0 (read_back r w.1)

pub written_twice : (r : Round) → Led r → file_of (read_file (file_of r)).round ≡ file_of r
written_twice r l = ap (λ (w : Reading). file_of w.round) (read_back r l)

-- ---- a file, read and written

module _ (l : List ℕ) (bytes : are_bytes l ≡ true) (none : (read_file l).number ≡ 0) where
  abbrev led : Led (read_file l).round
  led = (file_records l, read_leads l bytes none)

  -- as many records as were read
  taken : records_taken (read_file l).round ≡ (read_file l).place
  taken = omega (arith, led-count (read_file l).round (file_records l) led.1, records_count l, read_count l none)

  pub read_again : read_file (file_of (read_file l).round) ≡ read_file l
  read_again = read_back (read_file l).round led ∙ ap₂ (stop (read_file l).round) (sym none) taken

  pub written_again : SameButOrder (file_records l) (file_records (file_of (read_file l).round))
  unfolding file_of
  written_again =
      let r = (read_file l).round in
      rw (records_joined (records_of r) (leads_whole (own_lead r led))) (same_round led.1 (own_lead r led))

  pub as_long : length (file_of (read_file l).round) ≡ length l
  as_long = omega (arith, file_long_lem (read_file l).round led, taken, read_count l none, read_even l none)

  pub settles_as_file : (lent : List ℕ)
      → (file_answer (file_of (read_file l).round) (length lent) ≡ file_answer l (length lent)) × (file_list (file_of (read_file l).round) lent ≡ file_list l lent)
  settles_as_file lent = (ap (λ (w : Reading). read_answer w (length lent)) read_again, ap (λ (w : Reading). read_list w lent) read_again)

-- ---- a round, settled as it is held and as it is filed

module _ (r : Round) (l : Led r) (lent : List ℕ) where
  same_refusal : read_refusal (read_file (file_of r)) (length lent) ≡ settle_refusal r (length lent)
  unfolding read_refusal settle_refusal
  same_refusal = rw (read_back r l, led-held r l) (go (eqb (length lent) results_long) _)
    where
      go : (t : Bool) (n : ℕ) → (if not t then 1 else if not t then 1 else n) ≡ (if not t then 1 else n)
      go true n = refl
      go false n = refl

  pub settles_as_round : (file_number (file_answer (file_of r) (length lent)) ≡ settle_number (settle_answer r (length lent)))
      × (file_pool (file_answer (file_of r) (length lent)) ≡ settle_pool (settle_answer r (length lent)))
      × (file_list (file_of r) lent ≡ settle_list r lent)
  unfolding read_list settle_list
  settles_as_round =
      let room = length lent in
      let w = read_file (file_of r) in (
        file_number_lem w room ∙ same_refusal ∙ sym (settle_number_lem r room),
        file_pool_lem w room ∙ rw (same_refusal, read_back r l) (sym (settle_pool_lem r room)),
        rw (same_refusal, read_back r l),
      )
