use Rattle.cards.specs.Deck.{faulty_from}
use Rattle.cards.proofs.is_faulty_from.Goals as goal

pub returns : goal.returns
unfolding faulty_from
returns c = simp (c.has_repeat_from.ensures, c.are_cards_from.ensures)
