use Rattle.std.proofs.Common.{◌≡◌, arith, take, sym, ◌∙◌}
use Rattle.std.proofs.lemmas.List.{take_all}
use Rattle.hands.specs.Hand.{of_suit, flush}
use Rattle.allsix.specs.Six.{six_royal}
use Rattle.allsix.proofs.is_six_royal.Goals as goal

pub returns-then-is_suited : goal.returns-then-is_suited
unfolding six_royal
returns-then-is_suited c =
    let cs = c.args.cards.now in
    let six = c.requires in
    let all : take 6 cs ≡ cs = take_all 6 cs (omega arith) in
    let suited : c.is_suited.result ≡ flush 6 (of_suit cs) = rw (all, six) at c.is_suited.ensures in
    simp (sym suited ∙ c.if-is_suited.true, c.is_run.ensures)

pub returns-else-is_suited : goal.returns-else-is_suited
unfolding six_royal
returns-else-is_suited c =
    let cs = c.args.cards.now in
    let six = c.requires in
    let all : take 6 cs ≡ cs = take_all 6 cs (omega arith) in
    let suited : c.is_suited.result ≡ flush 6 (of_suit cs) = rw (all, six) at c.is_suited.ensures in
    simp (sym suited ∙ c.if-is_suited.false) c.if-is_suited.false
