-- The refused record as a part of the file.
-- Assumes nothing.
use Prim.Native.Nat.{ℕ, ◌-◌, ◌*◌, ◌≤◌, min}
use mathlib.Core.Path.{◌≡◌, ◌∙◌}
use mathlib.Core.List.{List}
use native.Mathlib.Nat.{min_comm}
use lib.ListN.{length, take, drop}
use Rattle.std.proofs.lemmas.List.{take_min}
use Rattle.reading.specs.declared.Reading.{Reading}
use Rattle.reading.specs.File.{read_file, refused_part}
use Rattle.reading.proofs.Records.{rest_of}
use Rattle.reading.proofs.Readings.{read_place_lem}

-- where w is where reading the file ended
module _ (l : List ℕ) (w : Reading) (e : w ≡ read_file l) where
  pub part_in : 16 * w.place ≤ length l
  part_in = rw e (read_place_lem l)

  -- of what is left, 16 bytes or all
  pub part_taken : (n : ℕ) → let rest = take (length l - 16 * w.place) (drop (16 * w.place) l) in n ≡ min (length rest) 16 → take n rest ≡ refused_part l
  unfolding refused_part
  part_taken n m =
      let left = take (length l - 16 * w.place) (drop (16 * w.place) l) in
      rw (m, min_comm (length left) 16) (take_min 16 left ∙ rw (rest_of l (16 * w.place), e))
