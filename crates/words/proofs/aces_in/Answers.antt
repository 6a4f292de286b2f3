use Rattle.words.proofs.Lines.{aces}
use Rattle.words.proofs.aces_in.Goals as goal

pub returns : goal.returns
returns c = λ h has. aces c.args.w h has
