use Prim.Native.Nat.{ℕ}
use mathlib.Core.Path.{ap, ◌∙◌}
use lib.Dec.{eqb}
use Rattle.counting.specs.Choose.{one}
use Rattle.words.specs.Word.{word}
use Rattle.words.proofs.Cards.{alone}
use Rattle.words.proofs.word1.Goals as goal

pub returns : goal.returns
returns c =
    c.word_of.ensures
    ∙ ap (λ (k : ℕ). word (λ r. one (eqb k r))) c.rank_of.ensures
    ∙ alone c.args.card
