-- What an exported function tells in a number that the caller lends. What an answer does not have is left as it was.
-- Assumes nothing.
use Rattle.std.specs.Prelude.{ℕ, Result, Ok, Err}
use Rattle.causes.specs.declared.Refusal.{Refusal}
use Rattle.names.specs.declared.FiveName.{FiveName}
use Rattle.names.specs.Answer.{told}
use Rattle.names.specs.Five.{five_place}
use Rattle.names.specs.declared.LoName.{LoName}
use Rattle.names.specs.Lo.{lo_high}
use Rattle.settlement.specs.declared.Paid.{Paid}
use Rattle.settlement.specs.declared.Faulty.{Faulty}

-- the pool in full
abbrev pub full_told : Result Paid Faulty → ℕ → ℕ
full_told (Ok settled) was = settled.full
full_told (Err faulty) was = was

-- the pool as paid
abbrev pub paid_told : Result Paid Faulty → ℕ → ℕ
paid_told (Ok settled) was = settled.paid
paid_told (Err faulty) was = was

-- a refusal's place
abbrev pub place_told : Result Paid Faulty → ℕ → ℕ
place_told (Ok settled) was = was
place_told (Err faulty) was = faulty.place

-- a name's place in the list of names
abbrev pub name_told : Result FiveName Refusal → ℕ → ℕ
name_told answer was = told five_place answer was

-- a Lo Ball name's high rank, and 13 for nothing
abbrev pub lo_told : Result LoName Refusal → ℕ → ℕ
lo_told answer was = told lo_high answer was
