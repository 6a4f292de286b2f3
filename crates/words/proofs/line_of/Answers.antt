use Rattle.words.proofs.Lines.{line}
use Rattle.words.proofs.line_of.Goals as goal

pub returns : goal.returns
returns c = λ h has. line c.args.w h has
