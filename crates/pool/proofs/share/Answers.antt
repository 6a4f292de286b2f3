use mathlib.Core.Path.{ap, sym, ◌∙◌}
use native.Mathlib.Omega.{arith}
use Rattle.std.specs.Prelude.{Err}
use Rattle.std.proofs.lemmas.Result.{err_from_is_err_and}
use Rattle.pool.proofs.Laws.{fit_total}
use Rattle.pool.proofs.Shares.{kept, unrefused, refused_as, answer-refused, answer_full, answer-cut, accepted, refused, promised}
use Rattle.pool.proofs.share.Goals as goal

pub returns-in_err-share_refusal : goal.returns-in_err-share_refusal
returns-in_err-share_refusal c =
    let told = err_from_is_err_and c.from_residual.result c.from_residual.ensures.1 in
    let why = refused_as _ _ _ (sym c.in_err-share_refusal.was ∙ c.share_refusal.ensures) in
    promised _ _ _ _ _ (told.1 ∙ ap Err (told.2 ∙ sym why.1) ∙ sym (answer-refused _ _ _ why.0)) (sym (refused _ _ _ why.0))

pub total_of-pool-requires : goal.total_of-pool-requires
total_of-pool-requires c =
    let k = kept _ _ _ (unrefused _ _ _ (sym c.in_ok-share_refusal.was ∙ c.share_refusal.ensures)) in
    omega (arith, fit_total c.args.wins.now k.2)

pub fill-requires : goal.fill-requires
fill-requires c =
    let k = kept _ _ _ (unrefused _ _ _ (sym c.in_ok-share_refusal.was ∙ c.share_refusal.ensures)) in record {
      wins_len = (k.0, k.1, k.2);
      maximum_bound = (k.3, c.total_of-pool.ensures);
    }

pub returns-then-pool-maximum : goal.returns-then-pool-maximum
returns-then-pool-maximum c =
    let none = unrefused _ _ _ (sym c.in_ok-share_refusal.was ∙ c.share_refusal.ensures) in
    promised _ _ _ _ _ (sym (answer_full _ _ _ none (rw c.total_of-pool.ensures at c.if-pool-maximum.true))) (c.fill.ensures ∙ sym (accepted _ _ _ none))

pub returns-else-pool-maximum : goal.returns-else-pool-maximum
returns-else-pool-maximum c =
    let none = unrefused _ _ _ (sym c.in_ok-share_refusal.was ∙ c.share_refusal.ensures) in
    promised _ _ _ _ _ (sym (answer-cut _ _ _ none (rw c.total_of-pool.ensures at c.if-pool-maximum.false))) (c.fill.ensures ∙ sym (accepted _ _ _ none))
