use Rattle.std.proofs.Common.{rules, tests, arith, ◌∙◌, sym, ap, ltb, ℕ}
use Rattle.std.specs.Prelude.{Option, unwrap_or}
use Rattle.std.proofs.lemmas.Iterator.Adapters.{option_map_id}
use Rattle.std.proofs.lemmas.Iterator.Search.{find_from_yields_List}
use Rattle.counting.proofs.Library.{YieldsList-from_down}
use Rattle.hands.specs.Hand.{of_rank}
use Rattle.hands.proofs.Highest.{highest-find}
use Rattle.hands.proofs.highest_of.Goals as goal

pub returns : goal.returns
returns c =
    let occurs = λ (r : ℕ). ltb 0 (of_rank c.args.cards.now r) in
    let found = find_from_yields_List occurs _ _ c.find.result c.find.ensures.ran (YieldsList-from_down 0 13 13 (cc) (omega arith)) (λ x b q k. search (rules, tests)) in
    c.unwrap_or.ensures
    ∙ ap (λ (o : Option ℕ). unwrap_or o 0) (sym (option_map_id c.find.result) ∙ found)
    ∙ highest-find 13 (of_rank c.args.cards.now)
