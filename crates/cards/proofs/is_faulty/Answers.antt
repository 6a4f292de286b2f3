use mathlib.Core.Path.{sym, ◌∙◌}
use Rattle.cards.proofs.Decks.{faulty_whole}
use Rattle.cards.proofs.is_faulty.Goals as goal

pub returns : goal.returns
returns c = c.is_faulty_from.ensures ∙ sym (faulty_whole _)
