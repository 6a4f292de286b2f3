use mathlib.Core.Path.{ap, ◌∙◌}
use Rattle.names.specs.Lo.{name_lo, answer_lo, lo_high}
use Rattle.names.proofs.Answers.{refused, named_whole}
use Rattle.names.proofs.name_lo.Goals as goal

pub returns-in_err-hand_refusal : goal.returns-in_err-hand_refusal
unfolding answer_lo
returns-in_err-hand_refusal c = refused lo_high _ _ _ _ c.from_residual.ensures.1 c.in_err-hand_refusal.ensures.number

pub returns-in-Some : goal.returns-in-Some
unfolding answer_lo
returns-in-Some c =
    let ok = c.in_ok-hand_refusal.ensures in
    named_whole lo_high name_lo 5 _ ok.number _ (c.lo_by_word.ensures ∙ ap name_lo c.in-Some.ensures.cases.same)
