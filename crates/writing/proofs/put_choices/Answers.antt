use Rattle.writing.proofs.Stores.{placed-none, placed_room, placed_more, placed_all, choice_at, choices_at}
use Rattle.writing.proofs.put_choices.Goals as goal

pub loop-i-init : goal.loop-i-init
loop-i-init c = placed-none _ _ _ 21

pub put-end-requires : goal.put-end-requires
put-end-requires c =
    rw c.choice_record.ensures
    (placed_room (choice_at c.args.round.play) _ _ 21 _ _ _ c.loop-i.invariant c.loop-i-test.true (rw (← (choices_at c.args.round)) at c.requires))

pub loop-i-preserved : goal.loop-i-preserved
loop-i-preserved c =
    placed_more (choice_at c.args.round.play) _ _ 21 _ _ _ c.loop-i.invariant c.loop-i-test.true _ _ (rw c.choice_record.ensures at c.put-end.ensures)

pub returns : goal.returns
returns c = rw (choices_at c.args.round) at (placed_all (choice_at c.args.round.play) _ _ 21 _ _ _ c.loop-i.invariant c.loop-i-test.false)
