use mathlib.Core.Path.{◌∙◌}
use Rattle.shifts.proofs.Answers.{fit_told, both_right, odd_tail, wrong_lists, all_settled, shift_promised}
use Rattle.shifts.proofs.settle_shift.Goals as goal

pub returns-then-file-ne0 : goal.returns-then-file-ne0
returns-then-file-ne0 c = rw c.number.ensures (shift_promised _ _ _ _ _ _ _ (odd_tail _ _ _ _ c.if-file-ne0.true))

pub returns-then-not-lists_fit : goal.returns-then-not-lists_fit
returns-then-not-lists_fit c =
    let wrong = fit_told _ _ _ _ _ c.count_rounds-rounds.ensures c.lists_fit.ensures ∙ c.if-not-lists_fit.true in
    rw c.number-then-not-lists_fit.ensures (shift_promised _ _ _ _ _ _ _ (wrong_lists _ _ _ _ c.if-file-ne0.false wrong))

pub settle_rounds-requires : goal.settle_rounds-requires
settle_rounds-requires c =
    let n = c.count_rounds-rounds.ensures in
    let both = both_right _ _ _ (fit_told _ _ _ _ _ n c.lists_fit.ensures ∙ c.if-not-lists_fit.false) in
    (n, rw n both.0, rw n both.1)

pub returns : goal.returns
returns c =
    let n = c.count_rounds-rounds.ensures in
    let right = fit_told _ _ _ _ _ n c.lists_fit.ensures ∙ c.if-not-lists_fit.false in
    let s = c.settle_rounds.ensures in
    shift_promised _ _ _ _ _ _ _ (all_settled _ _ _ _ c.if-file-ne0.false right _ _ _ n s.amounts s.answers)
