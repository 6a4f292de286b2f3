use mathlib.Core.Path.{sym, ◌∙◌}
use Rattle.amounts.specs.Base.{base_pay_of, pooled, win, kept}
use Rattle.amounts.proofs.base_of.Goals as goal

pub returns-then-not-is_in : goal.returns-then-not-is_in
unfolding pooled win kept
returns-then-not-is_in c = simp (sym c.is_in.ensures ∙ c.if-not-is_in.true)

pub returns : goal.returns
unfolding pooled win kept base_pay_of
returns c = simp (c.base_at.ensures, c.base_wager.ensures, c.base_pay-pay.ensures, c.hand_of.ensures, sym c.is_in.ensures ∙ c.if-not-is_in.false)
