use mathlib.Core.Path.{sym, ◌∙◌}
use Rattle.std.proofs.Common.{arith}
use Rattle.names.proofs.Fives.{all_differ, some_alike}
use Rattle.names.proofs.five_of_word.Goals as goal

pub returns-then-suited : goal.returns-then-suited
returns-then-suited c = λ h t has one.
    grind (arith, all_differ h t (sym (c.is_apart.ensures h has) ∙ c.if-is_apart.true), c.is_royal5.ensures h has, c.is_straight5-row.ensures h has, one)

pub returns-then-row : goal.returns-then-row
returns-then-row c = λ h t has one.
    grind (arith, all_differ h t (sym (c.is_apart.ensures h has) ∙ c.if-is_apart.true), c.is_royal5.ensures h has, c.is_straight5-row.ensures h has, one)

pub returns-else-row : goal.returns-else-row
returns-else-row c = λ h t has one.
    grind (arith, all_differ h t (sym (c.is_apart.ensures h has) ∙ c.if-is_apart.true), c.is_royal5.ensures h has, c.is_straight5-row.ensures h has, one)

pub returns-then-three : goal.returns-then-three
returns-then-three c = λ h t has one.
    grind (arith, some_alike h t has.1 (sym (c.is_apart.ensures h has) ∙ c.if-is_apart.false), c.has_four.ensures h has, c.pairs_in-pairs.ensures h has, c.has_three-three.ensures h has, one)

pub returns-else-middle_pairs_in-eq1 : goal.returns-else-middle_pairs_in-eq1
returns-else-middle_pairs_in-eq1 c = λ h t has one.
    grind (arith, some_alike h t has.1 (sym (c.is_apart.ensures h has) ∙ c.if-is_apart.false), c.has_four.ensures h has, c.pairs_in-pairs.ensures h has, c.has_three-three.ensures h has, c.high_pairs_in.ensures h has, c.middle_pairs_in.ensures h has, one)
