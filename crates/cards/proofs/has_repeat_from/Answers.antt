-- Outer loop: none of the places from `from` to below i repeats an earlier one. Inner loop: besides, place i differs from each place below j.
use mathlib.Core.Path.{sym, ◌∙◌}
use borrow.Author.Tests.{eq-eqb, ne_eqb}
use Rattle.counting.proofs.Ranges.{some_none, some_more, some_done, some_here}
use Rattle.cards.specs.Deck.{repeated_at}
use Rattle.cards.proofs.Repeats.{new_more, all_new, repeat_here}
use Rattle.cards.proofs.has_repeat_from.Goals as goal

pub loop-j-init : goal.loop-j-init
loop-j-init c =
    let v = c.places.invariant in
    (v.0, v.1, some_none _)

pub loop-j-preserved : goal.loop-j-preserved
loop-j-preserved c =
    let v = c.loop-j.invariant in
    (v.0, v.1, some_more _ _ v.2 (ne_eqb _ _ c.if-cards-i.false))

pub places-preserved : goal.places-preserved
unfolding repeated_at
places-preserved c =
    let v = c.loop-j.invariant in
    (v.0, new_more _ c.args.cards.now _ v.1 (some_done _ _ _ v.2 c.loop-j.auto.j-end c.loop-j-test.false))

pub returns-after-places : goal.returns-after-places
returns-after-places c =
    let v = c.places.invariant in
    v.0 ∙ sym (all_new _ _ _ c.places-test.false v.1)

pub returns-then-cards-i : goal.returns-then-cards-i
unfolding repeated_at
returns-then-cards-i c = sym (repeat_here _ _ _ c.places.auto.i c.places-test.true (some_here _ _ _ c.loop-j-test.true (eq-eqb _ _ c.if-cards-i.true)))
