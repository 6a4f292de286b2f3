use Rattle.std.proofs.Common.{◌≡◌, length, arith, rules, ap, ◌∙◌}
use Rattle.hands.specs.Hand.{of_rank, of_suit, flush}
use Rattle.words.proofs.Cards.{few_cards}
use Rattle.names.specs.Lo.{is_lo}
use Rattle.names.proofs.is_lo_by_word.Goals as goal

pub returns : goal.returns
unfolding is_lo
returns c =
    let cs = c.args.cards.now in
    let five : length cs ≡ 5 = search rules in
    let suited : c.is_suited.result ≡ flush 5 (of_suit cs) = c.is_suited.ensures ∙ ap (λ n. flush n (of_suit cs)) five in
    simp (suited, c.are_five.ensures, c.is_straight5-row.ensures (of_rank cs) (c.word_in.ensures.few (omega arith), omega (arith, few_cards cs)))
