use Rattle.std.proofs.Common.{rules, ◌<◌, ◌^◌, ap, ◌∙◌}
use Rattle.text.specs.Text.{decimal}
use Rattle.text.proofs.Decimal.{decimal_is}
use Rattle.text.proofs.Page.put_number.Goals as goal

pub returns : goal.returns
returns g c =
    let small : c.value.result < 2 ^ 64 = search rules in
    let e = c.as_bytes.ensures.value ∙ c.format.ensures.text ∙ decimal_is c.value.result small ∙ ap decimal c.value.ensures in
    simp e at c.put.ensures
