use Rattle.writing.proofs.Whole.{table_room, seats_room, parts_room, choices_room, all_stored}
use Rattle.writing.proofs.put_records.Goals as goal

pub put-seats-requires : goal.put-seats-requires
put-seats-requires c = let a = c.args in rw c.table_record.ensures (table_room a.round a.room.now c.requires.1)

pub put_seats-parts-requires : goal.put_seats-parts-requires
put_seats-parts-requires c = let a = c.args in
    (c.requires.0, seats_room a.round a.room.now c.requires.1 _ _ (rw c.table_record.ensures at c.put-seats.ensures))

pub put_parts-choices-requires : goal.put_parts-choices-requires
put_parts-choices-requires c = let a = c.args in
    (c.requires.0, parts_room a.round a.room.now c.requires.1 _ _ (rw c.table_record.ensures at c.put-seats.ensures) _ _ c.put_seats-parts.ensures)

pub put_choices-requires : goal.put_choices-requires
put_choices-requires c = let a = c.args in
    choices_room a.round a.room.now c.requires.1 _ _ (rw c.table_record.ensures at c.put-seats.ensures) _ _ c.put_seats-parts.ensures _ _ c.put_parts-choices.ensures

pub returns : goal.returns
returns c = let a = c.args in
    all_stored a.round a.room.now c.requires.1 _ _ (rw c.table_record.ensures at c.put-seats.ensures) _ _ c.put_seats-parts.ensures _ _ c.put_parts-choices.ensures _ _ c.put_choices.ensures
