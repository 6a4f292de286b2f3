-- A refusal leaves the room in which a held file is written again as it was.
-- Assumes nothing.
use Prim.Native.Nat.{ℕ}
use mathlib.Core.Path.{◌≡◌, refl}
use mathlib.Core.Bool.{Bool, true, false, not}
use mathlib.Core.List.{List}
use lib.Dec.{eqb}
use lib.ListN.{length}
use Rattle.std.specs.Prelude.{if◌then◌else◌, Err}
use Rattle.causes.specs.declared.Refusal.TheVariants.{NotHeld}
use Rattle.causes.specs.Refusal.{number_of}
use Rattle.reading.specs.File.{read_file}
use Rattle.writing.specs.Write.{write_answer, write_list}
use Rattle.writing.proofs.Answers.{write_left}
use Rattle.filing.specs.Filed.{rewrite_answer, rewrite_list}

pub rewrite_left : (l lent : List ℕ) → (number_of (rewrite_answer l (length lent)) ≡ 0 → ⊥) → rewrite_list l lent ≡ lent
unfolding rewrite_answer rewrite_list
rewrite_left l lent = go (eqb (read_file l).number 0)
  where
    go : (t : Bool) → (number_of (if not t then Err NotHeld else write_answer (read_file l).round (length lent)) ≡ 0 → ⊥)
        → (if not t then lent else write_list (read_file l).round lent) ≡ lent
    go true n = write_left (read_file l).round lent n
    go false n = refl
