use Rattle.cards.specs.Deck.{whole_deck}
use Rattle.cards.proofs.is_whole_deck.Goals as goal

pub returns : goal.returns
unfolding whole_deck
returns c = simp c.is_faulty.ensures
