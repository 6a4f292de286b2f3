-- What the round answers to a record.
-- Assumes nothing.
use Rattle.std.specs.Prelude.{ℕ, not, List, eqb, length, if◌then◌else◌}
use Rattle.records.specs.Bytes.{byte}
use Rattle.seating.specs.Table.{table_of, table_refusal}
use Rattle.seating.specs.Seat.{seat_refusal, with_seat}
use Rattle.dealing.specs.Part.{part_refusal, with_part}
use Rattle.choosing.specs.Choice.{choice_refusal, with_choice}
use Rattle.seating.specs.declared.Table.{Table}
use Rattle.seating.specs.declared.Wagers.{Wagers}
use Rattle.dealing.specs.declared.Deck.{Deck}
use Rattle.choosing.specs.declared.Play.{Play}
use Rattle.round.specs.declared.Round.{Round}
use Rattle.round.specs.declared.Answer.{Answer}
use Rattle.round.specs.declared.Answer.TheVariants.{Next, Finished, Refused}
use Rattle.round.specs.declared.Step.{Step}
use Rattle.round.specs.Order.{is_finished, may_come}

-- the refusal of what the record says, by its kind, which is 1 to 4 where the record may come
unfoldable pub kind_refusal : Round → List ℕ → ℕ
kind_refusal r b =
    if eqb (byte b 0) 1 then table_refusal b
    else if eqb (byte b 0) 2 then seat_refusal r.table r.wagers b
    else if eqb (byte b 0) 3 then part_refusal r.deck b
    else choice_refusal r.wagers.antes r.play b

-- The number of the refusal of a record, 0 where there is none. 2: the record isn't 16 bytes. 3: this kind can't come here. Then what it
-- says; within a record the lowest number applies.
unfoldable pub refusal : Round → List ℕ → ℕ
refusal r b =
    if not (eqb (length b) 16) then 2
    else if not (may_come r (byte b 0)) then 3
    else kind_refusal r b

-- the round with another part
abbrev pub with_table : Round → Table → Round
with_table r t = record { table = t; wagers = r.wagers; deck = r.deck; play = r.play }

abbrev pub with_wagers : Round → Wagers → Round
with_wagers r w = record { table = r.table; wagers = w; deck = r.deck; play = r.play }

abbrev pub with_deck : Round → Deck → Round
with_deck r d = record { table = r.table; wagers = r.wagers; deck = d; play = r.play }

abbrev pub with_play : Round → Play → Round
with_play r p = record { table = r.table; wagers = r.wagers; deck = r.deck; play = p }

-- the round with what the record says, by its kind
unfoldable pub next : Round → List ℕ → Round
next r b =
    if eqb (byte b 0) 1 then with_table r (table_of b)
    else if eqb (byte b 0) 2 then with_wagers r (with_seat r.wagers b)
    else if eqb (byte b 0) 3 then with_deck r (with_part r.deck b)
    else with_play r (with_choice r.wagers.antes r.play b)

-- a refusal that names its cause; a refused record hands back the same round
abbrev pub refused : ℕ → Round → Step
refused n r = record { answer = Refused n; round = r }

-- the next round, or the finished round
abbrev pub accepted : Round → Step
accepted r = record { answer = if is_finished r then Finished else Next; round = r }

-- Each record's answer is the next round, the finished round, or a refusal that names its cause.
unfoldable pub feed : Round → List ℕ → Step
feed r b = if not (eqb (refusal r b) 0) then refused (refusal r b) r else accepted (next r b)

-- this paper's number for each answer: the refusal's, and 0 where the record was taken
abbrev pub number_of : Answer → ℕ
number_of Next = 0
number_of Finished = 0
number_of (Refused number) = number
