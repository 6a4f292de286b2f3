use Rattle.std.proofs.Common.{◌≡◌, Bool, ◌&&◌, eqb, drop, get_or, ◌+◌, ap, sym, ◌∙◌, ℕ}
use Rattle.counting.specs.Count.{every_of}
use Rattle.counting.proofs.Lists.{every_of_step, every_of_end}
use Rattle.cards.specs.Card.{suit}
use Rattle.words.proofs.Cards.{and_end, and_next, one_suit_of}
use Rattle.words.proofs.is_suited.Goals as goal

pub loop-card-preserved : goal.loop-card-preserved
loop-card-preserved c =
    let l = c.loop-card in
    let cards = c.args.cards.now in
    let test = λ (x : ℕ). eqb (suit x) c.suit_of-first.result in
    rw c.suit_of.ensures (
    and_next l.suited (test (get_or cards l.card-index 0)) (every_of test (drop (l.card-index + 1) cards))
    ∙ ap (λ (t : Bool). l.suited && t) (sym (every_of_step test cards l.card-index c.loop-card-test.true))
    ∙ l.invariant
    )

pub returns : goal.returns
returns c =
    let l = c.loop-card in
    let cards = c.args.cards.now in
    let test = λ (x : ℕ). eqb (suit x) c.suit_of-first.result in
    let first : c.suit_of-first.result ≡ suit (get_or cards 0 0) = c.suit_of-first.ensures ∙ ap suit c.at.ensures in
    let own : every_of test cards ≡ every_of (λ x. eqb (suit x) (suit (get_or cards 0 0))) cards = ap (λ (s : ℕ). every_of (λ x. eqb (suit x) s) cards) first in
    sym (and_end l.suited) ∙ ap (λ (t : Bool). l.suited && t) (sym (every_of_end test cards l.card-index c.loop-card-test.false)) ∙ l.invariant ∙ own ∙ one_suit_of cards
