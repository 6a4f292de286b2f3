-- Refusal 17 is exact: the test is true of a round exactly where accepted records lead to it.
-- Assumes nothing.
use mathlib.Core.Path.{◌≡◌}
use mathlib.Core.Bool.{true}
use Rattle.round.specs.declared.Round.{Round}
use Rattle.led.specs.Led.{Led}
use Rattle.led.specs.Held.{is_held}
use Rattle.led.specs.Records.{records_of}
use Rattle.led.proofs.Kept.{Long, held_fits, led-held}
use Rattle.led.proofs.Written.{written}

-- by the round's own records
pub held-led : (r : Round) → Long r → is_held r ≡ true → Led r
held-led r long h = (records_of r, written r long (held_fits r h))

pub exact : (r : Round) → Long r → (is_held r ≡ true → Led r) × (Led r → is_held r ≡ true)
exact r long = (held-led r long, led-held r)
