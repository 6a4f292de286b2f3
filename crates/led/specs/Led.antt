-- The rounds that accepted records lead to.
-- Assumes nothing.
use Rattle.std.specs.Prelude.{ℕ, ◌≡◌, Bool, true, List, [], ◌∷◌, eqb}
use Rattle.records.specs.Bytes.{are_bytes}
use Rattle.round.specs.declared.Round.{Round}
use Rattle.round.specs.declared.Answer.{Answer}
use Rattle.round.specs.Order.{fresh_round}
use Rattle.round.specs.Feed.{feed, number_of}

-- the answer takes the record: its number is no refusal's
abbrev pub is_taken : Answer → Bool
is_taken answer = eqb (number_of answer) 0

-- the records, bytes each, are accepted one after the other and lead from the first round to the second
pub data Leads : Round → List (List ℕ) → Round → Type 0 where
  done : {r : Round} → Leads r [] r
  then : {r s : Round} {l : List (List ℕ)} (b : List ℕ)
      → are_bytes b ≡ true → is_taken (feed r b).answer ≡ true → Leads (feed r b).round l s → Leads r (b ∷ l) s

-- the fresh round, and each that accepted records lead to
abbrev pub Led : Round → Type 0
Led r = (l : List (List ℕ)) × Leads fresh_round l r
