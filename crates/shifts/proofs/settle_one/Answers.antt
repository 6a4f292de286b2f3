use Rattle.std.proofs.Common.{rules}
use mathlib.Core.Path.{◌∙◌}
use Rattle.shifts.proofs.Ones.{one_settled}
use Rattle.shifts.proofs.settle_one.Goals as goal

pub returns : goal.returns
returns c =
    let s = c.settle_file-settlement.ensures in
    let k = one_settled _ c.args.amounts.now _ _ _ c.requires.0 (c.fill.ensures.after (λ y e. search rules)) s.answer s.list in record {
      amounts = k.0;
      answer = c.copy_from_slice.ensures.after ∙ rw (c.file_number-number.ensures, c.file_place-place.ensures) k.1;
    }
