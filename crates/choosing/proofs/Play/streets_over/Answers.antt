use Rattle.std.proofs.Common.{rules, tests, refl, sym, ap, ◌∙◌}
use Rattle.std.specs.Option.{unwrap_or}
use Rattle.std.proofs.lemmas.Iterator.{YieldsList-from_range}
use Rattle.std.proofs.lemmas.Iterator.Adapters.{option_map_id}
use Rattle.std.proofs.lemmas.Iterator.Search.{find_from_yields_List}
use Rattle.choosing.specs.Streets.{is_open, streets_over}
use Rattle.choosing.proofs.Street.{first_found}
use Rattle.choosing.proofs.Play.streets_over.Goals as goal

pub returns : goal.returns
unfolding streets_over
returns c =
    let test = is_open c.args.antes c.args.self in
    let found = find_from_yields_List test _ _ _ c.find.ensures.ran (YieldsList-from_range 0 3 3 (cc) refl) (λ x b q k. search (rules, tests)) in
    c.unwrap_or.ensures ∙ ap (λ o. unwrap_or o 3) (sym (option_map_id c.find.result) ∙ found) ∙ first_found (test 0) (test 1) (test 2)
