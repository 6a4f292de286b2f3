use mathlib.Core.Path.{ap, sym, ◌∙◌}
use native.Mathlib.Omega.{arith}
use Rattle.causes.specs.Refusal.{number}
use Rattle.pool.specs.Pool.{shares_of}
use Rattle.pool.proofs.Laws.{fit_total}
use Rattle.pool.proofs.Shares.{shares_law, kept, unrefused, refused_as, refused_number}
use Rattle.pool.proofs.Pools.{all_within, pool-refused, pool_shared}
use Rattle.pool.proofs.pool_of.Goals as goal

pub returns-in-Err : goal.returns-in-Err
returns-in-Err c =
    let why = refused_as _ _ _ (sym c.in-Err.is ∙ c.share_refusal.ensures) in
    rw (c.number.ensures ∙ sym (ap number why.1) ∙ refused_number _ _ _ why.0) (sym (pool-refused _ _ why.0))

pub total_of-full-requires : goal.total_of-full-requires
total_of-full-requires c =
    let k = kept _ _ _ (unrefused _ _ _ (sym c.in_default.is ∙ c.share_refusal.ensures)) in
    omega (arith, fit_total c.args.wins k.2)

pub fill-requires : goal.fill-requires
fill-requires c =
    let k = kept _ _ _ (unrefused _ _ _ (sym c.in_default.is ∙ c.share_refusal.ensures)) in record {
      wins_len = (k.0, k.1, k.2);
      maximum_bound = (k.3, c.total_of-full.ensures);
    }

pub total_of-paid-requires : goal.total_of-paid-requires
total_of-paid-requires c =
    let a = c.args in
    let k = kept _ _ _ (unrefused _ _ _ (sym c.in_default.is ∙ c.share_refusal.ensures)) in
    rw c.fill.ensures (omega (arith, k.3, all_within a.maximum a.wins (shares_of a.maximum a.wins) (shares_law a.maximum a.wins)))

pub returns : goal.returns
returns c =
    let none = unrefused _ _ _ (sym c.in_default.is ∙ c.share_refusal.ensures) in
    simp (c.total_of-paid.ensures, c.fill.ensures, c.total_of-full.ensures) (sym (pool_shared _ _ none))
