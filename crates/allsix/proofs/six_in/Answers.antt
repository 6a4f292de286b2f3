use Rattle.std.proofs.Common.{◌≡◌, ap, sym, ◌∙◌}
use borrow.Author.Tests.{eq-eqb, ne_eqb}
use Rattle.counting.specs.Count.{gather}
use Rattle.counting.proofs.Gathers.{each_of}
use Rattle.allsix.specs.Six.{best_of_six, name_six}
use Rattle.allsix.proofs.six_in.Goals as goal

pub returns-then-not-is_six_royal : goal.returns-then-not-is_six_royal
unfolding name_six gather
returns-then-not-is_six_royal c =
    let cards = c.args.cards.now in
    let best : c.best_of_six.result ≡ best_of_six cards = c.best_of_six.ensures ∙ sym (ap best_of_six (each_of cards 6 c.requires)) in
    simp (sym c.is_six_royal.ensures ∙ c.if-not-is_six_royal.true, best)

pub returns-then-of_suit-eq6 : goal.returns-then-of_suit-eq6
unfolding name_six
returns-then-of_suit-eq6 c =
    simp (sym c.is_six_royal.ensures ∙ c.if-not-is_six_royal.false, eq-eqb _ _ (sym c.of_suit.ensures ∙ c.if-of_suit-eq6.true))

pub returns-else-of_suit-eq6 : goal.returns-else-of_suit-eq6
unfolding name_six
returns-else-of_suit-eq6 c =
    simp (sym c.is_six_royal.ensures ∙ c.if-not-is_six_royal.false, ne_eqb _ _ (rw c.of_suit.ensures at c.if-of_suit-eq6.false))
