-- One record to a held round.
-- Assumes nothing.
use Rattle.std.specs.Prelude.{ℕ, ◌≡◌, Bool, true, not, List, if◌then◌else◌}
use Rattle.round.specs.declared.Round.{Round}
use Rattle.round.specs.declared.Step.{Step}
use Rattle.round.specs.Feed.{refusal, refused, feed}
use Rattle.led.specs.Led.{Led}
use Rattle.led.specs.Held.{is_held}

-- an answer is true exactly of the fresh round and of those that accepted records lead to
pub record Decides (r : Round) (answer : Bool) : Type 0 where
  pub test : answer ≡ is_held r
  pub led : answer ≡ true → Led r
  pub held : Led r → answer ≡ true

-- The number of the refusal, 0 where there is none. One record: 17 where the held round is neither the fresh one nor led to by accepted
-- records, then 2, then the rest.
unfoldable pub take_refusal : Round → List ℕ → ℕ
take_refusal r b = if not (is_held r) then 17 else refusal r b

-- what is answered: a refusal beside the same round, or what the round answers to the record
unfoldable pub takes : Round → List ℕ → Step
takes r b = if not (is_held r) then refused 17 r else feed r b

-- the same, said of the rounds themselves
pub record Taken (r : Round) (b : List ℕ) (s : Step) : Type 0 where
  pub answer : s ≡ takes r b
  pub led : Led r → s ≡ feed r b
  pub unled : (Led r → ⊥) → s ≡ refused 17 r
