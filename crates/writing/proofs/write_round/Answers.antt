use mathlib.Core.Path.{sym, ◌∙◌}
use borrow.Author.Tests.{eq-eqb, ne_eqb}
use Rattle.causes.specs.Refusal.{answered}
use Rattle.writing.specs.Write.{write_refusal}
use Rattle.writing.proofs.Answers.{promised, as_long}
use Rattle.writing.proofs.write_round.Goals as goal

pub returns-then-not-is_held : goal.returns-then-not-is_held
unfolding answered write_refusal
returns-then-not-is_held c =
    let held = sym c.is_held.ensures.test ∙ c.if-not-is_held.true in
    promised c.args.round c.args.room.now _ c.is_held.ensures 17 (simp held)

pub returns-then-not-is_read : goal.returns-then-not-is_read
unfolding answered write_refusal
returns-then-not-is_read c =
    let held = sym c.is_held.ensures.test ∙ c.if-not-is_held.false in
    let table = sym c.is_read.ensures ∙ c.if-not-is_read.true in
    promised c.args.round c.args.room.now _ c.is_held.ensures 16 (simp (held, table))

pub returns-then-room-long : goal.returns-then-room-long
unfolding answered write_refusal
returns-then-room-long c =
    let held = sym c.is_held.ensures.test ∙ c.if-not-is_held.false in
    let table = sym c.is_read.ensures ∙ c.if-not-is_read.false in
    let long = c.file_length-long.ensures ∙ as_long _ c.args.room.now _ c.is_held.ensures c.if-not-is_held.false in
    promised c.args.round c.args.room.now _ c.is_held.ensures 1 (simp (held, table, ne_eqb _ _ (λ z. c.if-room-long.true (z ∙ sym long))))

pub put_records-requires : goal.put_records-requires
put_records-requires c =
    let held = sym c.is_held.ensures.test ∙ c.if-not-is_held.false in
    (held, c.if-room-long.false ∙ c.file_length-long.ensures ∙ as_long _ c.args.room.now _ c.is_held.ensures c.if-not-is_held.false)

pub returns : goal.returns
unfolding answered write_refusal
returns c =
    let held = sym c.is_held.ensures.test ∙ c.if-not-is_held.false in
    let table = sym c.is_read.ensures ∙ c.if-not-is_read.false in
    let long = c.if-room-long.false ∙ c.file_length-long.ensures ∙ as_long _ c.args.room.now _ c.is_held.ensures c.if-not-is_held.false in
    rw c.put_records.ensures (promised c.args.round c.args.room.now _ c.is_held.ensures 0 (simp (held, table, eq-eqb _ _ long)))
