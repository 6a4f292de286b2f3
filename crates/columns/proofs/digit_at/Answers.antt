use mathlib.Core.Path.{sym, ◌∙◌}
use Rattle.records.proofs.Betweens.{between_true}
use Rattle.columns.specs.Columns.{digit_at}
use Rattle.columns.proofs.digit_at.Goals as goal

pub overflow_sub-result : goal.overflow_sub-result
overflow_sub-result c = (between_true 48 57 _ (sym c.is_between.ensures ∙ c.if-is_between.true)).0

pub returns-then-is_between : goal.returns-then-is_between
unfolding digit_at
returns-then-is_between c = simp (sym c.byte_at-c.ensures, sym c.is_between.ensures ∙ c.if-is_between.true)

pub returns-else-is_between : goal.returns-else-is_between
unfolding digit_at
returns-else-is_between c = simp (sym c.byte_at-c.ensures, sym c.is_between.ensures ∙ c.if-is_between.false)
