use lib.ListN.{replicate}
use mathlib.Core.Path.{refl, ap}
use Rattle.amounts.specs.declared.Base.{Base}
use Rattle.amounts.specs.Base.{win, kept, wins}
use Rattle.counting.proofs.Fills.{each_none, each_more, each_all}
use Rattle.amounts.proofs.bases_of.Goals as goal

pub loop-k-init : goal.loop-k-init
loop-k-init c =
    let r = c.args.round in
    (each_none 7 (win r) (replicate 7 0) refl, each_none 7 (kept r) (replicate 7 0) refl)

pub loop-k-preserved : goal.loop-k-preserved
loop-k-preserved c =
    let s = c.base_of-base.ensures in
    let v = c.loop-k.invariant in
    let h = c.loop-k-test.true in
    (each_more 7 _ _ _ _ v.0 h (ap (λ (b : Base). b.win) s), each_more 7 _ _ _ _ v.1 h (ap (λ (b : Base). b.kept) s))

pub returns : goal.returns
unfolding wins
returns c =
    let v = c.loop-k.invariant in
    let h = c.loop-k-test.false in
    simp (each_all 7 _ _ _ v.0 h, each_all 7 _ _ _ v.1 h)
