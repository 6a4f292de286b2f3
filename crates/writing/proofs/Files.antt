-- The file of a led round: the round's own records lead to it, and how long they are.
-- Assumes nothing.
use Prim.Native.Nat.{ℕ, ◌*◌, ◌≤◌}
use mathlib.Core.Path.{◌≡◌, ap, ◌∙◌}
use native.Mathlib.Omega.{arith}
use lib.ListN.{length}
use Rattle.round.specs.declared.Round.{Round}
use Rattle.round.specs.Order.{fresh_round}
use Rattle.led.specs.Led.{Leads, Led}
use Rattle.led.specs.Records.{records_of, records_taken}
use Rattle.led.proofs.Kept.{led-long, led_fits}
use Rattle.led.proofs.Counts.{led-count, at_most_33}
use Rattle.led.proofs.Written.{written}
use Rattle.reading.proofs.Readings.{leads_whole}
use Rattle.reading.proofs.Records.{joined_length}
use Rattle.writing.specs.Write.{file_of}

module _ (r : Round) (l : Led r) where
  pub own_lead : Leads fresh_round (records_of r) r
  own_lead = written r (led-long r l) (led_fits r l)

  -- 16 bytes for each record that the round has taken
  pub file_long_lem : length (file_of r) ≡ 16 * records_taken r
  unfolding file_of
  file_long_lem = joined_length (records_of r) (leads_whole own_lead) ∙ ap (λ (n : ℕ). 16 * n) (led-count r (records_of r) own_lead)

  -- 33 records are always room enough
  pub file_most : length (file_of r) ≤ 528
  file_most = omega (arith, file_long_lem, led-count r (records_of r) own_lead, at_most_33 r (records_of r) own_lead)
