use mathlib.Core.Path.{refl, sym, ◌∙◌}
use lib.Seq.{length-take-le}
use Rattle.digits.proofs.Spells.{kept_more, kept_zero, kept_all}
use borrow.Author.Rules.{rules}
use Rattle.digits.proofs.trim.Goals as goal

pub loop-n-init : goal.loop-n-init
loop-n-init c = refl

pub slice_bounds-result-end : goal.slice_bounds-result-end
slice_bounds-result-end c = sym (length-take-le _ c.args.bytes.now (search rules))

pub returns-then-is_zero_from : goal.returns-then-is_zero_from
returns-then-is_zero_from c =
    kept_zero c.args.bytes.now _ c.loop-n.invariant (sym c.is_zero_from.ensures ∙ c.if-is_zero_from.true)

pub loop-n-preserved : goal.loop-n-preserved
loop-n-preserved c =
    kept_more c.args.bytes.now _ c.loop-n.invariant c.loop-n-test.true (sym c.is_zero_from.ensures ∙ c.if-is_zero_from.false)

pub returns : goal.returns
returns c = kept_all c.args.bytes.now _ c.loop-n.invariant c.loop-n-test.false
