use Rattle.std.proofs.Common.{◌≡◌, length, rules, ◌∙◌}
use Rattle.hands.specs.Hand.{of_rank, of_suit}
use Rattle.words.proofs.Cards.{five-highest}
use Rattle.names.specs.Lo.{name_lo}
use Rattle.names.proofs.Los.{named_low}
use Rattle.names.proofs.lo_by_word.Goals as goal

pub returns : goal.returns
unfolding name_lo
returns c =
    let cs = c.args.cards.now in
    let long : length cs ≡ 5 = search rules in
    simp (c.lo_named.ensures, c.is_lo_by_word.ensures) (named_low (of_rank cs) (of_suit cs) c.top_rank.result (λ five. c.top_rank.ensures ∙ five-highest cs long five))
