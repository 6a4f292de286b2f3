-- A round that is held as the file of it: accepted records, one after the other. The empty file is the fresh round.
-- Assumes nothing.
use Rattle.std.specs.Prelude.{ℕ, Bool, not, List, Result, Err, eqb, if◌then◌else◌}
use Rattle.causes.specs.declared.Refusal.{Refusal}
use Rattle.causes.specs.declared.Refusal.TheVariants.{NotHeld}
use Rattle.round.specs.declared.Answer.{Answer}
use Rattle.round.specs.declared.Answer.TheVariants.{Next, Finished, Refused}
use Rattle.round.specs.Feed.{refusal, feed}
use Rattle.reading.specs.File.{read_file}
use Rattle.writing.specs.Write.{write_refusal, write_answer, write_list}

-- no record of the held bytes is refused, nor is there an odd tail
abbrev pub is_file : List ℕ → Bool
is_file l = eqb (read_file l).number 0

-- ---- one record

-- The number of the refusal, 0 where there is none. 17: the held bytes are no file of accepted records. Then the round's own, 2 first.
unfoldable pub file_take_refusal : List ℕ → List ℕ → ℕ
file_take_refusal l b = if not (is_file l) then 17 else refusal (read_file l).round b

-- the next round, the finished round, or a refusal
unfoldable pub file_takes : List ℕ → List ℕ → Answer
file_takes l b = if not (is_file l) then Refused 17 else (feed (read_file l).round b).answer

-- the same as a number that the caller lends: 1 where the round is then finished, 0 where the next record is awaited; after a refusal as it was
abbrev pub finished_told : Answer → ℕ → ℕ
finished_told Next was = 0
finished_told Finished was = 1
finished_told (Refused number) was = was

-- ---- the file in the writer's order

-- 17: the held bytes are no file of accepted records. Then as for the round that they lead to: 16 for the empty file, 1.
unfoldable pub rewrite_refusal : List ℕ → ℕ → ℕ
rewrite_refusal l room = if not (is_file l) then 17 else write_refusal (read_file l).round room

unfoldable pub rewrite_answer : List ℕ → ℕ → Result (Unit {0}) Refusal
rewrite_answer l room = if not (is_file l) then Err NotHeld else write_answer (read_file l).round room

-- The room then holds the file; after a refusal it is unchanged.
unfoldable pub rewrite_list : List ℕ → List ℕ → List ℕ
rewrite_list l lent = if not (is_file l) then lent else write_list (read_file l).round lent
