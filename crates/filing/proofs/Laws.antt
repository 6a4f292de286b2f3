-- A held file is answered as the round that it leads to, and an accepted record behind it makes the next held file.
-- Assumes nothing.
use Prim.Native.Nat.{ℕ, ◌+◌}
use mathlib.Core.Path.{◌≡◌, ap, ◌∙◌}
use mathlib.Core.Bool.{true, false}
use mathlib.Core.List.{List, [], ◌++◌}
use lib.ListN.{length}
use Rattle.round.specs.Feed.{feed}
use Rattle.round.proofs.Numbers.{feed_number}
use Rattle.led.specs.Led.{is_taken}
use Rattle.led.proofs.Took.{took}
use Rattle.held.specs.Take.{takes}
use Rattle.reading.specs.File.{stop, read_by, read_file}
use Rattle.reading.proofs.Readings.{read_on, read_stops, read_behind, read_held}
use Rattle.filing.specs.Filed.{file_take_refusal, file_takes}

module _ (l b : List ℕ) (none : (read_file l).number ≡ 0) where
  fed : file_takes l b ≡ (feed (read_file l).round b).answer
  unfolding file_takes
  fed = simp none

  pub takes_as_held : file_takes l b ≡ (takes (read_file l).round b).answer
  unfolding takes
  takes_as_held = simp (read_held l) fed

  -- an accepted record, put behind, makes the file of the next round
  pub next_file : is_taken (file_takes l b) ≡ true → read_file (l ++ b) ≡ stop (feed (read_file l).round b).round 0 ((read_file l).place + 1)
  unfolding read_by
  next_file a =
      let t = rw fed at a in
      read_behind l b none (took (read_file l).round b t).0 ∙ read_on feed (read_file l).round (read_file l).place b [] t

  -- a refused one, put behind, is what the file is refused for
  pub refused-behind : length b ≡ 16 → is_taken (file_takes l b) ≡ false → read_file (l ++ b) ≡ stop (read_file l).round (file_take_refusal l b) (read_file l).place
  unfolding file_take_refusal
  refused-behind long a =
      read_behind l b none long
      ∙ read_stops feed (read_file l).round (read_file l).place b [] (rw fed at a)
      ∙ ap (λ (n : ℕ). stop (read_file l).round n (read_file l).place) (simp none (feed_number (read_file l).round b))
