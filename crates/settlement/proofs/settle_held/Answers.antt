use mathlib.Core.Path.{ap, sym, ◌∙◌}
use Rattle.std.specs.Prelude.{Ok}
use Rattle.results.specs.declared.Results.{Results}
use Rattle.settlement.proofs.Answers.{unfinished, all_paid}
use Rattle.settlement.proofs.settle_held.Goals as goal

pub returns-then-not-is_finished : goal.returns-then-not-is_finished
returns-then-not-is_finished c =
    let p = c.requires in
    unfinished _ _ p.0 p.1 (sym c.is_finished.ensures ∙ c.if-not-is_finished.true)

pub returns : goal.returns
returns c =
    let p = c.requires in
    let s = c.results_of-settled.ensures in
    let list = c.copy_from_slice.ensures.after ∙ ap (λ (s : Results). s.amounts) s in
    let finished = sym c.is_finished.ensures ∙ c.if-not-is_finished.false in
    let all = all_paid _ _ p.0 p.1 finished _ list in record {
      answer = ap (λ (s : Results). Ok (record { full = s.full; paid = s.paid })) s ∙ all.answer;
      list = all.list;
    }
